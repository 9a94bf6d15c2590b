-- How a tree is walked in text order: what its mentions append to the uses and bodies, and what it adds to the pools.
use Rattle.std.proofs.Common.{◌+◌, ◌≡◌, ℕ, zero, suc, ◌<◌, nat_lt, Bool, true, false, List, [], ◌∷◌, ◌++◌, length, slice_get, Option, Some, None, Result, Ok, Err, arith, refl, sym, subst, ap, ◌∙◌}
use Rattle.std.specs.List.{list_all}
use Rattle.std.proofs.lemmas.Bool.{lt-ltb}
use Rattle.bqn_base.specs.declared.place.Place.{Place}
use Rattle.bqn_base.specs.declared.refusal.Refusal.{Refusal}
use Rattle.bqn_syntax.specs.grammar.Trees.{Stmts}
use Rattle.bqn_syntax.specs.scope.Order.{How}
use Rattle.bqn_syntax.specs.scope.Mentions.{Named, Mentions, no_mentions, and_mentions}
use Rattle.bqn_syntax.specs.scope.Scope.{Scope, Seen, Use, name_of, names_of, has, defines, uses_of}
use Rattle.bqn_syntax.specs.scope.Bodies.{BodyNames, Resolution, exports_it, inside}
use Rattle.bqn_code.specs.declared.constant.Const.{Const}
use Rattle.bqn_code.specs.declared.instr.Instr.{Instr}
use Rattle.bqn_code.specs.Plain.{Code}
use Rattle.bqn_code.specs.Standing.{Standing, standing, slots_in, slots_up, around}
use Rattle.bqn_code.specs.Conditions.{is_below, instr_has_slot}
use Rattle.bqn_compile.specs.declared.count.Count.{Count}
use Rattle.bqn_compile.specs.Counting.{nothing, past}
use Rattle.bqn_compile.specs.Pools.{place_among}
use Rattle.bqn_compile.specs.Gathering.{Gathered, Most, Gathers, and_on, done, ◌▹◌, if_room, constant, add_constant, add_name, pooled}
use Rattle.bqn_compile.specs.Translation.{translation}
use Rattle.bqn_compile.proofs.Counts.{past-assoc, past-nothing}
use Rattle.bqn_compile.proofs.verified.slots.Fronts.{Front, front_same, front_more, front_trans, has_back, same_itself}
use Rattle.bqn_compile.proofs.verified.Tests.{or_left, all_append}
use Rattle.bqn_compile.proofs.verified.slots.Seeing.{ok_same, err_ok, InScopes, Defined}

-- ---- counts

pub none_more : (n c : ℕ) → n ≡ c → n ≡ c + 0
none_more n c h = omega arith

pub some_more : (n m : ℕ) → 0 < n → 0 < n + m
some_more n m h = omega arith

-- ---- the pools

pub split : (first : Result Gathered Refusal) (next : Gathers) (g' : Gathered) → and_on first next ≡ Ok g' → (mid : Gathered) × (first ≡ Ok mid) × (next mid ≡ Ok g')
split (Ok mid) next g' e = (mid, refl, e)
split (Err q) next g' e = absurd (err_ok e)

-- names and patterns are added behind those that are there
pub record Grown (g g' : Gathered) : Type 0 where
  pub names : Front g.names g'.names
  pub patterns : Front g.patterns g'.patterns

pub grown_same : (g : Gathered) → Grown g g
grown_same g = record { names = front_same g.names; patterns = front_same g.patterns }

pub grown_trans : {g g' g'' : Gathered} → Grown g g' → Grown g' g'' → Grown g g''
grown_trans h k = record { names = front_trans h.names k.names; patterns = front_trans h.patterns k.patterns }

-- names may be added, but no uses and no patterns
pub record Kept (g g' : Gathered) : Type 0 where
  pub uses : g'.uses ≡ g.uses
  pub patterns : g'.patterns ≡ g.patterns
  pub names : Front g.names g'.names

pub kept_grown : {g g' : Gathered} → Kept g g' → Grown g g'
kept_grown {g = g} k = record { names = k.names; patterns = subst (λ l. Front g.patterns l) (sym k.patterns) (front_same g.patterns) }

pub kept_same : (g g' : Gathered) → done g ≡ Ok g' → Kept g g'
kept_same g g' e = subst (λ z. Kept g z) (ok_same e) (record { uses = refl; patterns = refl; names = front_same g.names })

pub room_kept : (b : Bool) (place : Place) (g g' : Gathered) → if_room b place g ≡ Ok g' → g ≡ g'
room_kept true place g g' e = ok_same e
room_kept false place g g' e = absurd (err_ok e)

pub constant_kept : (m : Most) (o : Option Const) (place : Place) (g g' : Gathered) → constant m o place g ≡ Ok g' → Kept g g'
constant_kept m None place g g' e = kept_same g g' e
constant_kept m (Some c) place g g' e = by (place_among g.constants c) e
  where
    by : (o : Option ℕ) → add_constant m c place o g ≡ Ok g' → Kept g g'
    by (Some n) h = kept_same g g' h
    by None h =
        let s : (mid : Gathered) × (if_room (nat_lt (length g.constants) m.constants) place g ≡ Ok mid) × (Ok (record mid { constants = mid.constants ++ c ∷ [] }) ≡ Ok g') = split _ _ g' h in
        subst (λ (z : Gathered). Kept g z) (ok_same s.2) (subst (λ (z : Gathered). Kept g (record z { constants = z.constants ++ c ∷ [] })) (room_kept _ place g s.0 s.1) (record { uses = refl; patterns = refl; names = front_same g.names }))

-- a name is among the names from there on
pub record IsPooled (name : List ℕ) (g g' : Gathered) : Type 0 where
  pub kept : Kept g g'
  pub there : has g'.names name ≡ true

pub pooled_there : (name : List ℕ) (g g' : Gathered) → pooled name g ≡ Ok g' → IsPooled name g g'
pooled_there name g g' e = by (has g.names name) refl e
  where
    by : (b : Bool) → has g.names name ≡ b → add_name b name g ≡ Ok g' → IsPooled name g g'
    by true q h = subst (λ z. IsPooled name g z) (ok_same h) (record { kept = kept_same g g refl; there = q })
    by false q h = subst (λ z. IsPooled name g z) (ok_same h) (record { kept = record { uses = refl; patterns = refl; names = front_more g.names (name ∷ []) }; there = has_back g.names (name ∷ []) name (or_left _ _ (same_itself name)) })

-- ---- places

-- a resolution, pools and a tree, of which a code is made
pub record Made : Type 0 where
  pub resolved : Resolution
  pub pools : Gathered
  pub tree : Stmts

module _ (o : Made) where
  abbrev pub the_code : Code
  the_code = translation o.resolved o.pools o.tree

  -- the body of the code with this number has these names, and its block stands where they say
  pub record Placed (k : ℕ) (names : BodyNames) : Type 0 where
    pub body : Standing
    pub there : slice_get (standing the_code) k ≡ Some body
    pub slots : body.body.slots ≡ length names.slots
    pub block : 0 < k → 0 < body.block_number
    pub parent : 0 < k → body.block.parent ≡ names.parent

  abbrev pub AllPlaced : Type 0
  AllPlaced = (k : ℕ) (names : BodyNames) → slice_get o.resolved.bodies k ≡ Some names → Placed k names

  -- the body with this number has these names
  pub record At (s : Scope) (n : ℕ) : Type 0 where
    pub names : BodyNames
    pub there : slice_get o.resolved.bodies n ≡ Some names
    pub same : names.slots ≡ names_of s

  -- and the bodies around it, from the inside
  abbrev pub Stands : Scope → List Scope → ℕ → Type 0
  Stands s [] n = At s n
  Stands s (t ∷ ts) n = (a : At s n) × (0 < n) × Stands t ts a.names.parent

  around_is : (x : Option Standing) (b : Standing) (go : ℕ → Option ℕ) → x ≡ Some b → 0 < b.block_number → around x go ≡ go b.block.parent
  around_is x b go e h = subst (λ (z : Option Standing). around z go ≡ go b.block.parent) (sym e) (by b.block_number h)
    where
      by : (k : ℕ) → 0 < k → elim k as (λ z. Option ℕ) [ zero ↦ None | suc n ↦ go b.block.parent ] ≡ go b.block.parent
      by zero h = absurd (omega arith)
      by (suc k) h = refl

  at_own : AllPlaced → (s : Scope) (n slot : ℕ) → At s n → slot < length (names_of s) → is_below slot (slots_up (standing the_code) 0 n) ≡ true
  at_own all s n slot a h =
      let p : Placed n a.names = all n a.names a.there in
      let same : p.body.body.slots ≡ length (names_of s) = p.slots ∙ ap (λ l. length l) a.same in
      subst (λ (o : Option Standing). is_below slot (slots_in o) ≡ true) (sym p.there) (subst (λ k. nat_lt slot k ≡ true) (sym same) (lt-ltb slot (length (names_of s)) h))

  -- what a name refers to is there in the code
  pub there_below : AllPlaced → (s : Scope) (ts : List Scope) (n up slot : ℕ) → Stands s ts n → InScopes (s ∷ ts) up slot → is_below slot (slots_up (standing the_code) up n) ≡ true
  there_below all s [] n zero slot st h = at_own all s n slot st h
  there_below all s (t ∷ ts) n zero slot st h = at_own all s n slot st.0 h
  there_below all s [] n (suc up) slot st h = elim h [ ]
  there_below all s (t ∷ ts) n (suc up) slot st h =
      let p : Placed n st.0.names = all n st.0.names st.0.there in
      let e : slots_up (standing the_code) (suc up) n ≡ slots_up (standing the_code) up st.0.names.parent = around_is (slice_get (standing the_code) n) p.body (λ parent. slots_up (standing the_code) up parent) p.there (p.block st.1) ∙ ap (λ k. slots_up (standing the_code) up k) (p.parent st.1) in
      subst (λ (z : Option ℕ). is_below slot z ≡ true) (sym e) (there_below all t ts st.0.names.parent up slot st.2 h)

  -- ---- instructions that pass

  -- in the body with this number each of these has its slots, once all bodies are placed
  pub record Passes (n : ℕ) (is : List Instr) : Type 0 where
    pub all : AllPlaced → (b : Standing) → b.number ≡ n → list_all (instr_has_slot the_code b) is ≡ true

  pub append_passes : {n : ℕ} {is js : List Instr} → Passes n is → Passes n js → Passes n (is ++ js)
  append_passes {n = n} {is = is} {js = js} h k = record { all = λ a b e. all_append (instr_has_slot the_code b) is js (h.all a b e) (k.all a b e) }

  pub cons_passes : {n : ℕ} {x : Instr} {is : List Instr} → Passes n (x ∷ []) → Passes n is → Passes n (x ∷ is)
  cons_passes {n = n} {x = x} {is = is} h k = append_passes {n = n} {is = x ∷ []} {js = is} h k

  pub no_passes : {n : ℕ} → Passes n []
  no_passes = record { all = λ a b e. refl }

  -- what a name refers to in the body with this number; what is defined is the body's own
  pub record Fits (how : How) (n : ℕ) (at : Seen) : Type 0 where
    pub below : AllPlaced → is_below at.slot (slots_up (standing the_code) at.up n) ≡ true
    pub own : defines how ≡ true → at.up ≡ 0

  -- ---- where the walk is

  -- in the body of these names with this number: the uses and bodies there are once all of it is walked
  pub record Here : Type 0 where
    pub own : Scope
    pub outer : List Scope
    pub number : ℕ
    pub after : List Use
    pub last : List BodyNames
    pub uses_stay : Front after o.resolved.uses
    pub bodies_stay : Front last o.resolved.bodies
    pub stands : Stands own outer number

  -- before these mentions, where so much is counted and the pools are these
  pub record State (h : Here) (ms : Mentions) (c : Count) (g : Gathered) : Type 0 where
    pub before : List Use
    pub resolves : uses_of (h.own ∷ h.outer) ms before ≡ Ok h.after
    pub uses : length before ≡ c.uses
    pub found : List BodyNames
    pub numbers : inside h.number ms found ≡ h.last
    pub bodies : length found ≡ c.bodies
    pub some : 0 < c.bodies
    pub patterns : length g.patterns ≡ c.patterns
    pub gathered : g.uses ≡ c.uses
    pub defined : Defined (names_of h.own) ms

  -- each name that these mentions export, blocks in them aside, is pooled
  abbrev pub Pooled : Mentions → Type 0
  Pooled no_mentions = Unit {0}
  Pooled (and_mentions (Named how t) ms) = (exports_it how ≡ true → has o.pools.names (name_of t) ≡ true) × Pooled ms
  Pooled (and_mentions m ms) = Pooled ms

  pub record Walked (h : Here) (ms k : Mentions) (c : Count) (g g' : Gathered) (F : Type 0) : Type 0 where
    pub state : State h k c g'
    pub grows : Grown g g'
    pub pooled : Grown g' o.pools → Pooled k → Pooled ms
    pub facts : Grown g' o.pools → F

  -- what gathers so, mentions so, and counts so, has what is said of it
  pub record Walk (h : Here) (f : Gathers) (m : Mentions → Mentions) (d : Count) (F : Count → Type 0) : Type 0 where
    pub run : (k : Mentions) (c : Count) (g g' : Gathered) → State h (m k) c g → f g ≡ Ok g' → Walked h (m k) k (past c d) g g' (F c)

  pub both : {h : Here} {f f' : Gathers} {m m' : Mentions → Mentions} {d d' : Count} {F F' : Count → Type 0} → Walk h f m d F → Walk h f' m' d' F' → Walk h (f ▹ f') (λ k. m (m' k)) (past d d') (λ c. F c × F' (past c d))
  both {h = h} {f = f} {f' = f'} {m = m} {m' = m'} {d = d} {d' = d'} {F = F} {F' = F'} a b = record { run = go }
    where
      go : (k : Mentions) (c : Count) (g g' : Gathered) → State h (m (m' k)) c g → (f ▹ f') g ≡ Ok g' → Walked h (m (m' k)) k (past c (past d d')) g g' (F c × F' (past c d))
      go k c g g' st e =
          let s : (mid : Gathered) × (f g ≡ Ok mid) × (f' mid ≡ Ok g') = split (f g) f' g' e in
          let x : Walked h (m (m' k)) (m' k) (past c d) g s.0 (F c) = a.run (m' k) c g s.0 st s.1 in
          let y : Walked h (m' k) k (past (past c d) d') s.0 g' (F' (past c d)) = b.run k (past c d) s.0 g' x.state s.2 in
          record {
            state = subst (λ z. State h k z g') (past-assoc c d d') y.state;
            grows = grown_trans x.grows y.grows;
            pooled = λ p q. x.pooled (grown_trans y.grows p) (y.pooled p q);
            facts = λ p. (x.facts (grown_trans y.grows p), y.facts p);
          }

  pub because : {h : Here} {f : Gathers} {m : Mentions → Mentions} {d : Count} {F F' : Count → Type 0} → ((c : Count) → F c → F' c) → Walk h f m d F → Walk h f m d F'
  because {h = h} {f = f} {m = m} {d = d} {F = F} {F' = F'} go a = record {
    run = λ k c g g' st e.
        let x : Walked h (m k) k (past c d) g g' (F c) = a.run k c g g' st e in
        record { state = x.state; grows = x.grows; pooled = x.pooled; facts = λ p. go c (x.facts p) };
  }

  -- nothing is mentioned, and names may be pooled
  pub unmentioned : {h : Here} (f : Gathers) → ((g g' : Gathered) → f g ≡ Ok g' → Kept g g') → Walk h f (λ k. k) nothing (λ c. Unit {0})
  unmentioned {h = h} f keeps = record {
    run = λ k c g g' st e.
        let q : Kept g g' = keeps g g' e in
        record { state = subst (λ z. State h k z g') (sym (past-nothing c)) (record { before = st.before; resolves = st.resolves; uses = st.uses; found = st.found; numbers = st.numbers; bodies = st.bodies; some = st.some; patterns = ap (λ l. length l) q.patterns ∙ st.patterns; gathered = q.uses ∙ st.gathered; defined = st.defined }); grows = kept_grown q; pooled = λ p z. z; facts = λ p. tt };
  }

  pub skip : {h : Here} → Walk h done (λ k. k) nothing (λ c. Unit {0})
  skip = unmentioned done (λ g g' e. kept_same g g' e)

pub ruleset walking_laws = (grown_trans)
