-- What names refer to is there: the uses that are appended are of slots that are there, and what a body defines is its own.
use Rattle.std.proofs.Common.{◌≡◌, ℕ, zero, suc, ◌+◌, ◌<◌, ◌&&◌, not, if◌then◌else◌, Bool, true, false, List, [], ◌∷◌, ◌++◌, length, map, Option, Some, None, Result, Ok, Err, refl, sym, subst, ap, ◌∙◌, add-one}
use Rattle.std.proofs.lemmas.Bool.{false≢true}
use Rattle.std.proofs.lemmas.Option.{none-some}
use Rattle.bqn_base.specs.declared.refusal.Refusal.{Refusal}
use Rattle.bqn_syntax.specs.declared.token.Token.{Token}
use Rattle.bqn_syntax.specs.scope.Order.{How, Reads, Defines, Exports, Changes, Shows}
use Rattle.bqn_syntax.specs.scope.Mentions.{Mention, Named, Special, System, Inner, Mentions, no_mentions, and_mentions, Scopes, no_scopes, and_scopes}
use Rattle.bqn_syntax.specs.scope.Scope.{Scope, Seen, Use, name_of, names_of, same_name, has, place_of, sees, or_outward, defines, definitions, named, read, define, used, unless, and_on, uses_of, uses_at, uses_inside, block_scope}
use Rattle.bqn_syntax.specs.scope.Bodies.{BodyNames, of_block, inside, inside_mention, inside_block}
use Rattle.bqn_compile.proofs.verified.slots.Fronts.{Front, front_same, front_more, front_trans, front_equal, some_same, same_itself, by_either, placed, place_below, same_equal}
use Rattle.bqn_compile.proofs.verified.Tests.{or_left, or_right}

-- ---- results

pub ok_same : {A E : Type 0} {x y : A} → ◌≡◌ {A = Result A E} (Ok x) (Ok y) → x ≡ y
ok_same {x = x} q = ap (λ o. elim o [ Ok z ↦ z | Err e ↦ x ]) q

pub err_ok : {A E : Type 0} {e : E} {x : A} → ◌≡◌ {A = Result A E} (Err e) (Ok x) → ⊥
err_ok q = false≢true (ap (λ o. elim o [ Ok z ↦ true | Err e ↦ false ]) q)

pub split_uses : (first : Result (List Use) Refusal) (next : List Use → Result (List Use) Refusal) (after : List Use) → and_on first next ≡ Ok after → (mid : List Use) × (first ≡ Ok mid) × (next mid ≡ Ok after)
split_uses (Ok mid) next after e = (mid, refl, e)
split_uses (Err q) next after e = absurd (err_ok e)

-- ---- what a name refers to

-- so many bodies up there is such a slot
abbrev pub InScopes : List Scope → (up slot : ℕ) → Type 0
InScopes [] up slot = ⊥
InScopes (s ∷ around) zero slot = slot < length (names_of s)
InScopes (s ∷ around) (suc up) slot = InScopes around up slot

abbrev pub SeenIn : List Scope → Seen → Type 0
SeenIn scopes seen = InScopes scopes seen.up seen.slot

pub sees_there : (scopes : List Scope) (name : List ℕ) (seen : Seen) → sees scopes name ≡ Some seen → SeenIn scopes seen
sees_there [] name seen e = absurd (none-some seen e)
sees_there (s ∷ around) name seen e = by (place_of (names_of s) name) refl (sees around name) (λ inner h. sees_there around name inner h) e
  where
    by : (p : Option ℕ) → place_of (names_of s) name ≡ p → (q : Option Seen) → ((inner : Seen) → q ≡ Some inner → SeenIn around inner) → or_outward p q ≡ Some seen → SeenIn (s ∷ around) seen
    by (Some slot) p q rest h = subst (SeenIn (s ∷ around)) (some_same h) (place_below (names_of s) name slot p)
    by None p None rest h = absurd (none-some seen h)
    by None p (Some inner) rest h = subst (SeenIn (s ∷ around)) (some_same h) (subst (λ up. InScopes (s ∷ around) up inner.slot) (sym (add-one inner.up)) (rest inner refl))

-- a name that the innermost body has refers to that body
pub sees_own : (s : Scope) (around : List Scope) (name : List ℕ) (seen : Seen) → has (names_of s) name ≡ true → sees (s ∷ around) name ≡ Some seen → seen.up ≡ 0
sees_own s around name seen h e =
    let p : (k : ℕ) × (place_of (names_of s) name ≡ Some k) = placed (names_of s) name h in
    sym (ap (λ (x : Seen). x.up) (some_same (ap (λ o. or_outward o (sees around name)) (sym p.1) ∙ e)))

-- ---- uses

-- what has a use of its own
abbrev pub IsUse : How → Type 0
IsUse Shows = ⊥
IsUse how = Unit {0}

pub record Appended (scopes : List Scope) (t : Token) (before after : List Use) : Type 0 where
  pub seen : Seen
  pub is_seen : sees scopes (name_of t) ≡ Some seen
  pub more : after ≡ before ++ record { seen = seen; place = t.place } ∷ []

used_is : (scopes : List Scope) (t : Token) (found : Option Seen) (before after : List Use) → sees scopes (name_of t) ≡ found → used t found before ≡ Ok after → Appended scopes t before after
used_is scopes t None before after e h = absurd (err_ok h)
used_is scopes t (Some seen) before after e h = record { seen = seen; is_seen = e; more = sym (ok_same h) }

read_is : (b : Bool) (scopes : List Scope) (t : Token) (before after : List Use) → read b t (sees scopes (name_of t)) before ≡ Ok after → Appended scopes t before after
read_is true scopes t before after h = absurd (err_ok h)
read_is false scopes t before after h = used_is scopes t (sees scopes (name_of t)) before after refl h

define_is : (b : Bool) (scopes : List Scope) (t : Token) (before after : List Use) → define b t (sees scopes (name_of t)) before ≡ Ok after → Appended scopes t before after
define_is true scopes t before after h = absurd (err_ok h)
define_is false scopes t before after h = used_is scopes t (sees scopes (name_of t)) before after refl h

pub named_is : (s : Scope) (around : List Scope) (how : How) (t : Token) (before after : List Use) → IsUse how → named (s ∷ around) how t before ≡ Ok after → Appended (s ∷ around) t before after
named_is s around Reads t before after u h = read_is _ (s ∷ around) t before after h
named_is s around Changes t before after u h = read_is _ (s ∷ around) t before after h
named_is s around Defines t before after u h = define_is _ (s ∷ around) t before after h
named_is s around Exports t before after u h = define_is _ (s ∷ around) t before after h
named_is s around Shows t before after u h = elim u [ ]

pub unless_is : (b : Bool) (q : Refusal) (before after : List Use) → unless b q before ≡ Ok after → before ≡ after
unless_is true q before after h = ok_same h
unless_is false q before after h = absurd (err_ok h)

appended_front : (scopes : List Scope) (t : Token) (before after : List Use) → Appended scopes t before after → Front before after
appended_front scopes t before after a = record { rest = record { seen = a.seen; place = t.place } ∷ []; whole = sym a.more }

named_front : (scopes : List Scope) (how : How) (t : Token) (before after : List Use) → named scopes how t before ≡ Ok after → Front before after
named_front [] how t before after h = absurd (err_ok h)
named_front (s ∷ around) Reads t before after h = appended_front _ t before after (named_is s around Reads t before after tt h)
named_front (s ∷ around) Changes t before after h = appended_front _ t before after (named_is s around Changes t before after tt h)
named_front (s ∷ around) Defines t before after h = appended_front _ t before after (named_is s around Defines t before after tt h)
named_front (s ∷ around) Exports t before after h = appended_front _ t before after (named_is s around Exports t before after tt h)
named_front (s ∷ around) Shows t before after h = front_equal (unless_is _ _ before after h)

mutual
  pub uses_front : (scopes : List Scope) (ms : Mentions) (before after : List Use) → uses_of scopes ms before ≡ Ok after → Front before after
  uses_front scopes no_mentions before after h = front_equal (ok_same h)
  uses_front scopes (and_mentions m ms) before after h =
      let s : (mid : List Use) × (uses_at scopes m before ≡ Ok mid) × (uses_of scopes ms mid ≡ Ok after) = split_uses (uses_at scopes m before) (uses_of scopes ms) after h in
      front_trans (at_front scopes m before s.0 s.1) (uses_front scopes ms s.0 after s.2)

  at_front : (scopes : List Scope) (m : Mention) (before after : List Use) → uses_at scopes m before ≡ Ok after → Front before after
  at_front scopes (Named how t) before after h = named_front scopes how t before after h
  at_front scopes (Special t) before after h = front_equal (unless_is _ _ before after h)
  at_front scopes (System t) before after h = front_equal (unless_is _ _ before after h)
  at_front scopes (Inner bodies) before after h = uses_inside_front scopes bodies before after h

  pub uses_inside_front : (scopes : List Scope) (bs : Scopes) (before after : List Use) → uses_inside scopes bs before ≡ Ok after → Front before after
  uses_inside_front scopes no_scopes before after h = front_equal (ok_same h)
  uses_inside_front scopes (and_scopes ms order bs) before after h =
      let s : (mid : List Use) × (uses_of (block_scope ms order ∷ scopes) ms before ≡ Ok mid) × (uses_inside scopes bs mid ≡ Ok after) = split_uses (uses_of (block_scope ms order ∷ scopes) ms before) (uses_inside scopes bs) after h in
      front_trans (uses_front (block_scope ms order ∷ scopes) ms before s.0 s.1) (uses_inside_front scopes bs s.0 after s.2)

-- ---- bodies by number

mutual
  pub inside_front : (n : ℕ) (ms : Mentions) (found : List BodyNames) → Front found (inside n ms found)
  inside_front n no_mentions found = front_same found
  inside_front n (and_mentions m ms) found = front_trans (mention_front n m found) (inside_front n ms (inside_mention n m found))

  mention_front : (n : ℕ) (m : Mention) (found : List BodyNames) → Front found (inside_mention n m found)
  mention_front n (Inner bodies) found = front_trans (front_more found (of_block n bodies)) (inside_block_front (length found) bodies (found ++ of_block n bodies))
  mention_front n (Named how t) found = front_same found
  mention_front n (Special t) found = front_same found
  mention_front n (System t) found = front_same found

  pub inside_block_front : (n : ℕ) (bs : Scopes) (found : List BodyNames) → Front found (inside_block n bs found)
  inside_block_front n no_scopes found = front_same found
  inside_block_front n (and_scopes ms order bs) found = front_trans (inside_front n ms found) (inside_block_front (n + 1) bs (inside n ms found))

-- ---- definitions

-- each name that is defined in these mentions, blocks in them aside, is among these
abbrev pub Defined : List (List ℕ) → Mentions → Type 0
Defined names no_mentions = Unit {0}
Defined names (and_mentions (Named how t) ms) = (defines how ≡ true → has names (name_of t) ≡ true) × Defined names ms
Defined names (and_mentions m ms) = Defined names ms

abbrev Within : List (List ℕ) → List (List ℕ) → Type 0
Within some names = (name : List ℕ) → has some name ≡ true → has names name ≡ true

pub defined_all : (names before : List (List ℕ)) (ms : Mentions) → Within before names → Within (map name_of (definitions before ms)) names → Defined names ms
defined_all names before no_mentions b d = tt
defined_all names before (and_mentions (Special t) ms) b d = defined_all names before ms b d
defined_all names before (and_mentions (System t) ms) b d = defined_all names before ms b d
defined_all names before (and_mentions (Inner bs) ms) b d = defined_all names before ms b d
defined_all names before (and_mentions (Named how t) ms) b d = by (defines how) (has before (name_of t)) refl (λ x y. defined_all names before ms x y) (λ x y. defined_all names (name_of t ∷ before) ms x y) d
  where
    by : (p q : Bool) → has before (name_of t) ≡ q → (Within before names → Within (map name_of (definitions before ms)) names → Defined names ms) → (Within (name_of t ∷ before) names → Within (map name_of (definitions (name_of t ∷ before) ms)) names → Defined names ms) → Within (map name_of (if p && not q then t ∷ definitions (name_of t ∷ before) ms else definitions before ms)) names → (p ≡ true → has names (name_of t) ≡ true) × Defined names ms
    by true true e same more h = ((λ x. b (name_of t) e), same b h)
    by true false e same more h =
        let here : has names (name_of t) ≡ true = h (name_of t) (or_left (same_name (name_of t) (name_of t)) _ (same_itself (name_of t))) in
        ((λ x. here), more (λ n k. by_either (has names n ≡ true) (same_name (name_of t) n) (has before n) (λ z. subst (λ l. has names l ≡ true) (same_equal (name_of t) n z) here) (b n) k) (λ n k. h n (or_right (same_name (name_of t) n) _ k)))
    by false true e same more h = ((λ x. absurd (false≢true x)), same b h)
    by false false e same more h = ((λ x. absurd (false≢true x)), same b h)
