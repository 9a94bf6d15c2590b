-- The walk over names, literals and patterns: the slots that they refer to are there.
use Rattle.std.proofs.Common.{◌≡◌, ℕ, suc, ◌+◌, Bool, true, false, List, [], ◌∷◌, length, slice_get, Some, Ok, arith, refl, sym, subst, ap, ◌∙◌, length-append}
use Rattle.std.proofs.lemmas.Bool.{false≢true}
use Rattle.bqn_base.specs.declared.place.Place.{Place}
use Rattle.bqn_base.specs.declared.refusal.Refusal.TheVariants as refusal
use Rattle.bqn_syntax.specs.declared.token.Kind.{Kind}
use Rattle.bqn_syntax.specs.declared.token.Kind.TheVariants as kind
use Rattle.bqn_syntax.specs.declared.token.Token.{Token}
use Rattle.bqn_syntax.specs.declared.sort.Tag.{Tag}
use Rattle.bqn_syntax.specs.grammar.Sorts.{is_word, is_name}
use Rattle.bqn_syntax.specs.scope.Order.{How, Shows}
use Rattle.bqn_syntax.specs.scope.Mentions.{Mention, Named, Special, System, Inner, Mentions, and_mentions, leaf_mention}
use Rattle.bqn_syntax.specs.scope.Scope.{Seen, Use, name_of, names_of, spelling, has, defines, stands_in_block, system_names, uses_of, named, unless}
use Rattle.bqn_syntax.specs.scope.Bodies.{exports_it}
use Rattle.bqn_compile.specs.declared.count.Count.{Count}
use Rattle.bqn_compile.specs.Counting.{nothing, past, one_use, in_kind, in_token}
use Rattle.bqn_compile.specs.Pools.{constant_of, seen_at, seen_in}
use Rattle.bqn_compile.specs.Gathering.{Gathered, the_most, Gathers, ◌▹◌, if_room, room_for, constant, pooled, pooled_if, refers, next_use, leaf, token}
use Rattle.bqn_compile.proofs.verified.slots.Fronts.{Front, front_trans, front_at, at_end, has_more}
use Rattle.bqn_compile.proofs.verified.slots.Seeing.{ok_same, split_uses, sees_there, sees_own, IsUse, Appended, named_is, unless_is, uses_front}
use Rattle.bqn_compile.proofs.verified.slots.Walking.{none_more, some_more, split, Grown, Kept, kept_grown, kept_same, room_kept, constant_kept, IsPooled, pooled_there, Made, there_below, Fits, Here, State, Pooled, Walked, Walk, unmentioned}

-- ---- names

-- a name stays among the pooled ones where it is exported
pub record Keeps (how : How) (name : List ℕ) (g g' : Gathered) : Type 0 where
  pub kept : Kept g g'
  pub there : exports_it how ≡ true → has g'.names name ≡ true

pub pool_keeps : (how : How) (name : List ℕ) (g g' : Gathered) → pooled name g ≡ Ok g' → Keeps how name g g'
pool_keeps how name g g' e = let x : IsPooled name g g' = pooled_there name g g' e in record { kept = x.kept; there = λ z. x.there }

pool_if_keeps : (how : How) (name : List ℕ) (g g' : Gathered) → pooled_if (exports_it how) name g ≡ Ok g' → Keeps how name g g'
pool_if_keeps how name g g' e = by (exports_it how) refl e
  where
    by : (b : Bool) → exports_it how ≡ b → pooled_if b name g ≡ Ok g' → Keeps how name g g'
    by true q h = pool_keeps how name g g' h
    by false q h = record { kept = kept_same g g' h; there = λ z. absurd (false≢true (sym q ∙ z)) }

-- one more use, and then the names
refers_then : (uses : List Use) (b : Bool) (place : Place) (next : Gathers) (g g' : Gathered) → (refers the_most uses b place ▹ next) g ≡ Ok g' → next (record g { uses = suc g.uses }) ≡ Ok g'
refers_then uses b place next g g' e =
    let s : (mid : Gathered) × (refers the_most uses b place g ≡ Ok mid) × (next mid ≡ Ok g') = split (refers the_most uses b place g) next g' e in
    let q : (mid : Gathered) × (if_room (room_for the_most b (seen_at uses g.uses).slot) place g ≡ Ok mid) × (next_use mid ≡ Ok s.0) = split (if_room (room_for the_most b (seen_at uses g.uses).slot) place g) next_use s.0 s.1 in
    let h : next (record q.0 { uses = suc q.0.uses }) ≡ Ok g' = subst (λ (z : Gathered). next z ≡ Ok g') (sym (ok_same q.2)) s.2 in
    subst (λ (z : Gathered). next (record z { uses = suc z.uses }) ≡ Ok g') (sym (room_kept (room_for the_most b (seen_at uses g.uses).slot) place g q.0 q.1)) h

module _ (o : Made) where
  abbrev pub uses : List Use
  uses = o.resolved.uses

  next_uses : (n m c : ℕ) → n ≡ m + 1 → m ≡ c → n ≡ c + 1
  next_uses n m c h k = omega arith

  one_more : (g' g c : ℕ) → g' ≡ suc g → g ≡ c → g' ≡ c + 1
  one_more g' g c h k = omega arith

  -- a name that has a use
  pub named_walk : (h : Here o) (how : How) → IsUse how → (t : Token) (b : Bool) (place : Place) (next : Gathers) → ((g g' : Gathered) → next g ≡ Ok g' → Keeps how (name_of t) g g') →
      Walk o h (refers the_most uses b place ▹ next) (λ k. and_mentions (Named how t) k) one_use (λ c. Fits o how h.number (seen_at uses c.uses))
  named_walk h how is t b place next keeps = record { run = go }
    where
      go : (k : Mentions) (c : Count) (g g' : Gathered) → State o h (and_mentions (Named how t) k) c g → (refers the_most uses b place ▹ next) g ≡ Ok g' → Walked o h (and_mentions (Named how t) k) k (past c one_use) g g' (Fits o how h.number (seen_at uses c.uses))
      go k c g g' st e =
          let q : Keeps how (name_of t) (record g { uses = suc g.uses }) g' = keeps (record g { uses = suc g.uses }) g' (refers_then uses b place next g g' e) in
          let u : (mid : List Use) × (named (h.own ∷ h.outer) how t st.before ≡ Ok mid) × (uses_of (h.own ∷ h.outer) k mid ≡ Ok h.after) = split_uses (named (h.own ∷ h.outer) how t st.before) (uses_of (h.own ∷ h.outer) k) h.after st.resolves in
          let a : Appended (h.own ∷ h.outer) t st.before u.0 = named_is h.own h.outer how t st.before u.0 is u.1 in
          let whole : Front u.0 uses = front_trans (uses_front (h.own ∷ h.outer) k u.0 h.after u.2) h.uses_stay in
          let at : slice_get u.0 (length st.before) ≡ Some (record { seen = a.seen; place = t.place }) = subst (λ (l : List Use). slice_get l (length st.before) ≡ Some (record { seen = a.seen; place = t.place })) (sym a.more) (at_end st.before (record { seen = a.seen; place = t.place }) []) in
          let it : seen_at uses c.uses ≡ a.seen = ap seen_in (subst (λ n. slice_get uses n ≡ Some (record { seen = a.seen; place = t.place })) st.uses (front_at (length st.before) _ whole at)) in
          record {
            state = record {
              before = u.0;
              resolves = u.2;
              uses = next_uses (length u.0) (length st.before) c.uses (ap (λ (l : List Use). length l) a.more ∙ length-append st.before _) st.uses;
              found = st.found;
              numbers = st.numbers;
              bodies = none_more (length st.found) c.bodies st.bodies;
              some = some_more c.bodies 0 st.some;
              patterns = none_more (length g'.patterns) c.patterns (ap (λ l. length l) q.kept.patterns ∙ st.patterns);
              gathered = one_more g'.uses g.uses c.uses q.kept.uses st.gathered;
              defined = st.defined.1;
            };
            grows = record { names = q.kept.names; patterns = (kept_grown q.kept).patterns };
            pooled = λ p z. ((λ x. has_more (name_of t) p.names (q.there x)), z);
            facts = λ p. subst (λ (s : Seen). Fits o how h.number s) (sym it) (record {
              below = λ all. there_below o all h.own h.outer h.number a.seen.up a.seen.slot h.stands (sees_there (h.own ∷ h.outer) (name_of t) a.seen a.is_seen);
              own = λ d. sees_own h.own h.outer (name_of t) a.seen (st.defined.0 d) a.is_seen;
            });
          }

  -- a mention that is judged, and has no use
  abbrev pub IsJudged : Mention → Type 0
  IsJudged (Special t) = Unit {0}
  IsJudged (System t) = Unit {0}
  IsJudged (Named Shows t) = Unit {0}
  IsJudged _ = ⊥

  abbrev pub IsExported : Mention → Gathered → Type 0
  IsExported (Named how t) g = has g.names (name_of t) ≡ true
  IsExported _ g = Unit {0}

  behind_judged : (h : Here o) (m : Mention) → IsJudged m → (k : Mentions) (before : List Use) → uses_of (h.own ∷ h.outer) (and_mentions m k) before ≡ Ok h.after → uses_of (h.own ∷ h.outer) k before ≡ Ok h.after
  behind_judged h (Special t) j k before e =
      let u : (mid : List Use) × (unless (stands_in_block (h.own ∷ h.outer)) (refusal.Undeclared t.place) before ≡ Ok mid) × (uses_of (h.own ∷ h.outer) k mid ≡ Ok h.after) = split_uses _ (uses_of (h.own ∷ h.outer) k) h.after e in
      subst (λ z. uses_of (h.own ∷ h.outer) k z ≡ Ok h.after) (sym (unless_is (stands_in_block (h.own ∷ h.outer)) (refusal.Undeclared t.place) before u.0 u.1)) u.2
  behind_judged h (System t) j k before e =
      let u : (mid : List Use) × (unless (has system_names (name_of t)) (refusal.UnknownSystem t.place) before ≡ Ok mid) × (uses_of (h.own ∷ h.outer) k mid ≡ Ok h.after) = split_uses _ (uses_of (h.own ∷ h.outer) k) h.after e in
      subst (λ z. uses_of (h.own ∷ h.outer) k z ≡ Ok h.after) (sym (unless_is (has system_names (name_of t)) (refusal.UnknownSystem t.place) before u.0 u.1)) u.2
  behind_judged h (Named Shows t) j k before e =
      let u : (mid : List Use) × (unless (has (names_of h.own) (name_of t)) (refusal.Undeclared t.place) before ≡ Ok mid) × (uses_of (h.own ∷ h.outer) k mid ≡ Ok h.after) = split_uses _ (uses_of (h.own ∷ h.outer) k) h.after e in
      subst (λ z. uses_of (h.own ∷ h.outer) k z ≡ Ok h.after) (sym (unless_is (has (names_of h.own) (name_of t)) (refusal.Undeclared t.place) before u.0 u.1)) u.2
  behind_judged h _ j k before e = elim j [ ]

  peeled : (h : Here o) (m : Mention) → IsJudged m → (k : Mentions) (c : Count) (g : Gathered) → State o h (and_mentions m k) c g → State o h k c g
  peeled h (Special t) j k c g st = record { before = st.before; resolves = behind_judged h (Special t) j k st.before st.resolves; uses = st.uses; found = st.found; numbers = st.numbers; bodies = st.bodies; some = st.some; patterns = st.patterns; gathered = st.gathered; defined = st.defined }
  peeled h (System t) j k c g st = record { before = st.before; resolves = behind_judged h (System t) j k st.before st.resolves; uses = st.uses; found = st.found; numbers = st.numbers; bodies = st.bodies; some = st.some; patterns = st.patterns; gathered = st.gathered; defined = st.defined }
  peeled h (Named how t) j k c g st = record { before = st.before; resolves = behind_judged h (Named how t) j k st.before st.resolves; uses = st.uses; found = st.found; numbers = st.numbers; bodies = st.bodies; some = st.some; patterns = st.patterns; gathered = st.gathered; defined = st.defined.1 }
  peeled h (Inner bs) j k c g st = elim j [ ]

  pools_judged : (m : Mention) → IsJudged m → (g : Gathered) → IsExported m g → Grown g o.pools → (k : Mentions) → Pooled o k → Pooled o (and_mentions m k)
  pools_judged (Special t) j g x p k z = z
  pools_judged (System t) j g x p k z = z
  pools_judged (Named how t) j g x p k z = ((λ y. has_more (name_of t) p.names x), z)
  pools_judged (Inner bs) j g x p k z = elim j [ ]

  pub judged_walk : (h : Here o) (f : Gathers) (m : Mention) → IsJudged m → ((g g' : Gathered) → f g ≡ Ok g' → Kept g g') → ((g g' : Gathered) → f g ≡ Ok g' → IsExported m g') → Walk o h f (λ k. and_mentions m k) nothing (λ c. Unit {0})
  judged_walk h f m j keeps exports = record {
    run = λ k c g g' st e.
        let rest : Walked o h k k (past c nothing) g g' (Unit {0}) = (unmentioned o {h = h} f keeps).run k c g g' (peeled h m j k c g st) e in
        record { state = rest.state; grows = rest.grows; pooled = λ p z. pools_judged m j g' (exports g g' e) p k z; facts = λ p. tt };
  }

  -- ---- tokens

  abbrev pub TokenFits : Here o → How → Kind → Count → Type 0
  TokenFits h how (kind.Word name r) c = Fits o how h.number (seen_at uses c.uses)
  TokenFits h how _ c = Unit {0}

  pub word_fits : (h : Here o) (how : How) (k : Kind) (c : Count) → is_word k ≡ true → TokenFits h how k c → Fits o how h.number (seen_at uses c.uses)
  word_fits h how (kind.Word name r) c w x = x
  word_fits h how _ c w x = absurd (false≢true w)

  pub name_word : (t : Tag) (k : Kind) → is_name t k ≡ true → is_word k ≡ true
  name_word t (kind.Word name r) w = refl
  name_word t _ w = w

  pub constant_walk : (h : Here o) (k : Kind) (place : Place) → Walk o h (constant the_most (constant_of k) place) (λ ms. ms) nothing (λ c. Unit {0})
  constant_walk h k place = unmentioned o {h = h} (constant the_most (constant_of k) place) (λ g g' e. constant_kept the_most (constant_of k) place g g' e)

  pub marked_walk : (h : Here o) (k : Kind) (place : Place) (m : Mention) → IsJudged m → ((g : Gathered) → IsExported m g) → Walk o h (constant the_most (constant_of k) place) (λ ms. and_mentions m ms) nothing (λ c. Unit {0})
  marked_walk h k place m j x = judged_walk h (constant the_most (constant_of k) place) m j (λ g g' e. constant_kept the_most (constant_of k) place g g' e) (λ g g' e. x g')

  kind_walk : (h : Here o) (how : How) → IsUse how → (k : Kind) (t : Token) → spelling k ≡ name_of t → Walk o h (leaf the_most uses how k t.place) (λ ms. leaf_mention how k t ms) (in_kind k) (TokenFits h how k)
  kind_walk h how is (kind.Word name r) t e = named_walk h how is t (defines how) t.place (pooled_if (exports_it how) name) (λ g g' q. subst (λ l. Keeps how l g g') e (pool_if_keeps how name g g' q))
  kind_walk h how is (kind.System z r) t e = marked_walk h (kind.System z r) t.place (System t) tt (λ g. tt)
  kind_walk h how is (kind.Special z r) t e = marked_walk h (kind.Special z r) t.place (Special t) tt (λ g. tt)
  kind_walk h how is k t e = constant_walk h k t.place

  pub token_walk : (h : Here o) (how : How) → IsUse how → (t : Token) → Walk o h (token the_most uses how t) (λ ms. leaf_mention how t.kind t ms) (in_token t) (TokenFits h how t.kind)
  token_walk h how is t = kind_walk h how is t.kind t refl
