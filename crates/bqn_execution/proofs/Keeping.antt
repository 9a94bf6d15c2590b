-- Running code of a formed table keeps states sound.
use Rattle.std.proofs.Common.{ℕ, zero, suc, List, [], ◌∷◌, Bool, true, false, Option, Some, None, Result, Ok, Err, nat_eq, slice_get}
use Rattle.bqn_base.specs.declared.fault.Fault.{Fault}
use Rattle.bqn_base.specs.declared.place.Place.{Place}
use Rattle.bqn_rows.specs.Plain.{Value, Number, Character, Array, Given, Derived, Function, Modifier1, Modifier2, Namespace, Values, none, more, count}
use Rattle.bqn_rows.specs.Raised.{Raised, placed}
use Rattle.bqn_rows.specs.Relations.{both}
use Rattle.bqn_rows.specs.Running.{Res, Gives, Ends, then_do}
use Rattle.bqn_meaning.specs.Actions.{at, go_on, ◌>>=◌, pure, known, found, used, where_so}
use Rattle.bqn_meaning.specs.Matching.{Fit, Fits, Mismatch, Missing, and_fit, must_fit, does_fit}
use Rattle.bqn_meaning.specs.Meaning.{Ending}
use Rattle.bqn_code.specs.Plain.{Pattern, Skip, Define, Change, ListPattern, Literal, Patterns, no_patterns, and_patterns, parts}
use Rattle.bqn_code.specs.Numbering.{Table}
use Rattle.bqn_execution.specs.States.{Environment, State, Halted, Spends, Sticks, Does, stuck}
use Rattle.bqn_execution.specs.Variables as v
use Rattle.bqn_execution.specs.Variables.{Frame}
use Rattle.bqn_execution.specs.Patterns as p
use Rattle.bqn_execution.specs.Operands.{Stack, Go, one, pair, triple, taken, pushed, value}
use Rattle.bqn_execution.specs.Execution as e
use Rattle.bqn_execution.specs.Soundness.{OfSome, Later, Good, AllGood, GoodIfAny, GoodStack, GoodEnding, Sound, Keeps}
use Rattle.bqn_execution.proofs.GoodValues as good
use Rattle.bqn_execution.proofs.GoodValues.{same, on, good_later, all_later, any_later, stack_later, GoodResult}
use Rattle.bqn_execution.proofs.SoundStates.{Further, put_further, variable_good}

abbrev pub Envs : Type 0
Envs = List Environment

-- nothing is asked of an answer
abbrev pub Free : {A : Type 0} → Envs → A → Type 0
Free u x = Unit {0}

module _ (t : Table) (top : ℕ) where
  -- from each later sound state on
  abbrev pub Safe : {A : Type 0} → Envs → (Envs → A → Type 0) → Does A → Type 0
  Safe es Q m = (s : State) → Later es s.environments → Sound t top s.environments → Keeps t top s.environments Q (m s)

  pub keeps_from : {A : Type 0} (u w : Envs) (Q : Envs → A → Type 0) → Later u w → (r : Res Halted State (Result A Raised)) → Keeps t top w Q r → Keeps t top u Q r
  keeps_from u w Q l (Gives (Ok x) s) k = (on u w s.environments l k.0, k.1, k.2)
  keeps_from u w Q l (Gives (Err f) s) k = (on u w s.environments l k.0, k.1)
  keeps_from u w Q l (Ends (Spends s)) k = (on u w s.environments l k.0, k.1)
  keeps_from u w Q l (Ends (Sticks x)) k = tt

  pub bind_safe : {A B : Type 0} (es : Envs) (P : Envs → A → Type 0) (Q : Envs → B → Type 0) (m : Does A) (go : A → Does B) →
      Safe es P m → ((u : Envs) → Later es u → (x : A) → P u x → Safe u Q (go x)) → Safe es Q (m >>= go)
  bind_safe {A = A} es P Q m go a b s l h = by (m s) (a s l h)
    where
      by : (r : Res Halted State (Result A Raised)) → Keeps t top s.environments P r → Keeps t top s.environments Q (then_do r (go_on go))
      by (Gives (Ok x) u) k = keeps_from s.environments u.environments Q k.0 (go x u) (b u.environments (on es s.environments u.environments l k.0) x k.2 u (same u.environments) k.1)
      by (Gives (Err f) u) k = (k.0, k.1)
      by (Ends (Spends u)) k = (k.0, k.1)
      by (Ends (Sticks u)) k = tt

  pub at_safe : {A : Type 0} (es : Envs) (Q : Envs → A → Type 0) (pl : Place) (m : Does A) → Safe es Q m → Safe es Q (at pl m)
  at_safe {A = A} es Q pl m a s l h = by (m s) (a s l h)
    where
      by : (r : Res Halted State (Result A Raised)) → Keeps t top s.environments Q r → Keeps t top s.environments Q (then_do r (λ q. Gives (placed pl q)))
      by (Gives (Ok x) u) k = k
      by (Gives (Err f) u) k = k
      by (Ends (Spends u)) k = k
      by (Ends (Sticks u)) k = tt

  pub pure_safe : {A : Type 0} (es : Envs) (Q : Envs → A → Type 0) (x : A) → ((u : Envs) → Later es u → Q u x) → Safe es Q (pure x)
  pure_safe es Q x q s l h = (same s.environments, h, q s.environments l)

  pub found_here : {A : Type 0} (Q : Envs → A → Type 0) (f : Fault) (x : Option A) (s : State) → Sound t top s.environments → OfSome (Q s.environments) x → Keeps t top s.environments Q (found f x s)
  found_here Q f None s h q = (same s.environments, h)
  found_here Q f (Some x) s h q = (same s.environments, h, q)

  pub known_safe : (es : Envs) (r : Result Value Fault) → GoodResult t es r → Safe es (Good t) (known r)
  known_safe es (Ok x) g s l h = (same s.environments, h, good_later t es s.environments l x g)
  known_safe es (Err f) g s l h = (same s.environments, h)

  pub known_free : {A : Type 0} (es : Envs) (r : Result A Fault) → Safe {A = A} es Free (known r)
  known_free es (Ok x) s l h = (same s.environments, h, tt)
  known_free es (Err f) s l h = (same s.environments, h)

  pub used_here : (es : Envs) (x : Option Value) → GoodIfAny t es x → Safe es (Good t) (used x)
  used_here es x g s l h = found_here (Good t) _ x s h (any_later t es s.environments l x g)

  pub used_safe : {B : Type 0} (es : Envs) (Q : Envs → B → Type 0) (x : Option Value) (go : Value → Does B) →
      GoodIfAny t es x → ((u : Envs) → Later es u → (y : Value) → Good t u y → Safe u Q (go y)) → Safe es Q (used x >>= go)
  used_safe es Q x go g a = bind_safe es (Good t) Q (used x) go (used_here es x g) a

  pub value_safe : (es : Envs) (m : Does Value) → Safe es (Good t) m → Safe es (GoodIfAny t) (value m)
  value_safe es m a = bind_safe es (Good t) (GoodIfAny t) m _ a (λ u l x g. pure_safe u (GoodIfAny t) (Some x) (λ w n. good_later t u w n x g))

  pub where_safe : {A : Type 0} (es : Envs) (Q : Envs → A → Type 0) (x : A) (m : Does A) → ((u : Envs) → Later es u → Q u x) → Safe es Q m → (b : Bool) → Safe es Q (where_so x m b)
  where_safe es Q x m q a true = a
  where_safe es Q x m q a false = pure_safe es Q x q

  -- ---- the stack

  module _ {A : Type 0} (es : Envs) (Q : Envs → A → Type 0) where
    pub stuck_safe : Safe es Q stuck
    stuck_safe s l h = tt

  module _ (es : Envs) where
    abbrev pub Goes : Does Ending → Type 0
    Goes m = Safe es (GoodEnding t) m

    pub one_safe : (go : Option Value → Go) (st : Stack) → GoodStack t es st → ((x : Option Value) (rest : Stack) → GoodIfAny t es x → GoodStack t es rest → Goes (go x rest)) → Goes (one go st)
    one_safe go [] g a = stuck_safe es (GoodEnding t)
    one_safe go (x ∷ st) g a = a x st g.0 g.1

    pub pair_safe : (go : Option Value → Option Value → Go) (st : Stack) → GoodStack t es st →
        ((x y : Option Value) (rest : Stack) → GoodIfAny t es x → GoodIfAny t es y → GoodStack t es rest → Goes (go x y rest)) → Goes (pair go st)
    pair_safe go [] g a = stuck_safe es (GoodEnding t)
    pair_safe go (x ∷ []) g a = stuck_safe es (GoodEnding t)
    pair_safe go (x ∷ (y ∷ st)) g a = a x y st g.0 g.1.0 g.1.1

    pub triple_safe : (go : Option Value → Option Value → Option Value → Go) (st : Stack) → GoodStack t es st →
        ((x y z : Option Value) (rest : Stack) → GoodIfAny t es x → GoodIfAny t es y → GoodIfAny t es z → GoodStack t es rest → Goes (go x y z rest)) → Goes (triple go st)
    triple_safe go [] g a = stuck_safe es (GoodEnding t)
    triple_safe go (x ∷ []) g a = stuck_safe es (GoodEnding t)
    triple_safe go (x ∷ (y ∷ [])) g a = stuck_safe es (GoodEnding t)
    triple_safe go (x ∷ (y ∷ (z ∷ st))) g a = a x y z st g.0 g.1.0 g.1.1.0 g.1.1.1

    pub taken_safe : (n : ℕ) (xs : Option Values) (go : Option Values → Go) (st : Stack) → OfSome (AllGood t es) xs → GoodStack t es st →
        ((ys : Option Values) (rest : Stack) → OfSome (AllGood t es) ys → GoodStack t es rest → Goes (go ys rest)) → Goes (taken n xs go st)
    taken_safe zero xs go st h g a = a xs st h g
    taken_safe (suc n) xs go [] h g a = stuck_safe es (GoodEnding t)
    taken_safe (suc n) xs go (x ∷ st) h g a = taken_safe n (both x xs) go st (good.both_good t es x xs g.0 h) g.1 a

  -- code that goes on from each later sound state with a good stack
  abbrev pub GoesOn : Envs → Go → Type 0
  GoesOn es next = (u : Envs) → Later es u → (st : Stack) → GoodStack t u st → Safe u (GoodEnding t) (next st)

  pub goes_here : (es : Envs) (next : Go) → GoesOn es next → (st : Stack) → GoodStack t es st → Safe es (GoodEnding t) (next st)
  goes_here es next a st g = a es (same es) st g

  pub pushed_safe : (es : Envs) (pl : Place) (m : Does (Option Value)) (next : Go) (st : Stack) → Safe es (GoodIfAny t) m → GoodStack t es st → GoesOn es next → Safe es (GoodEnding t) (pushed pl m next st)
  pushed_safe es pl m next st a g k = bind_safe es (GoodIfAny t) (GoodEnding t) (at pl m) _ (at_safe es (GoodIfAny t) pl m a) (λ u l x h. k u l (x ∷ st) (h, stack_later t es u l st g))

  -- ---- variables, fields and patterns

  module _ (f : Frame) where
    pub load_safe : (es : Envs) (up slot : ℕ) → Safe es (Good t) (v.load t f up slot)
    load_safe es up slot s l h = found_here (Good t) _ (v.value_at t f up slot s) s h (by (v.place t f up s))
      where
        by : (n : Option ℕ) → GoodIfAny t s.environments (elim n [ None ↦ None | Some m ↦ v.variable s slot m ])
        by None = tt
        by (Some n) = variable_good t top s slot n h

    pub stored_safe : (es : Envs) (up slot : ℕ) (x : Value) → Good t es x → Safe {A = Unit {0}} es Free (λ s. Gives (Ok tt) (v.stored t f up slot x s))
    stored_safe es up slot x g s l h = let k : Further t top s.environments (v.put_at (v.place t f up s) slot x s.environments) = put_further t top s.environments (v.place t f up s) slot x h (good_later t es s.environments l x g) in (k.later, k.sound, tt {0})

    pub change_safe : (es : Envs) (up slot : ℕ) (x : Value) → Good t es x → Safe es Free (v.change t f up slot x)
    change_safe es up slot x g = bind_safe es (Good t) Free (v.load t f up slot) _ (load_safe es up slot) (λ u l old h. stored_safe u up slot x (good_later t es u l x g))

    pub field_safe : (es : Envs) (name : Option (List ℕ)) (x : Value) → Safe es (Good t) (v.field t name x)
    field_safe es name (Namespace n) = λ s l h. read s h (v.field_place t s n name)
      where
        read : (s : State) → Sound t top s.environments → (slot : Option ℕ) → Keeps t top s.environments (Good t) (v.read_field n slot s)
        read s h None = (same s.environments, h)
        read s h (Some slot) = found_here (Good t) _ (v.variable s slot n) s h (variable_good t top s slot n h)
    field_safe es name (Number m) = λ s l h. (same s.environments, h)
    field_safe es name (Character c) = λ s l h. (same s.environments, h)
    field_safe es name (Array shape xs fill) = λ s l h. (same s.environments, h)
    field_safe es name (Given code) = λ s l h. (same s.environments, h)
    field_safe es name (Derived maker parts) = λ s l h. (same s.environments, h)
    field_safe es name (Function b n xs) = λ s l h. (same s.environments, h)
    field_safe es name (Modifier1 b n) = λ s l h. (same s.environments, h)
    field_safe es name (Modifier2 b n) = λ s l h. (same s.environments, h)

    free_safe : (es : Envs) (r : Fit) → Safe es Free (pure r)
    free_safe es r s l h = (same s.environments, h, tt)

    and_safe : (es : Envs) (m : Does Fit) → Safe es Free m → (r : Fit) → Safe es Free (and_fit m r)
    and_safe es m a Fits = a
    and_safe es m a Mismatch = free_safe es Mismatch
    and_safe es m a Missing = free_safe es Missing

    mutual
      fit_safe : (es : Envs) (q : Pattern) (x : Value) → Good t es x → Safe es Free (p.fit t f q x)
      fit_safe es Skip x g = free_safe es Fits
      fit_safe es (Define slot name) x g = bind_safe {A = Unit {0}} {B = Fit} es Free Free (v.define t f slot x) (λ u. pure Fits) (stored_safe es 0 slot x g) (λ u l y h. free_safe u Fits)
      fit_safe es (Change up slot name) x g = bind_safe {A = Unit {0}} {B = Fit} es Free Free (v.change t f up slot x) (λ u. pure Fits) (change_safe es up slot x g) (λ u l y h. free_safe u Fits)
      fit_safe es (Literal k) x g = known_free es (p.constant_fit (slice_get f.here.code.constants k) x)
      fit_safe es (ListPattern qs) (Array (n ∷ []) xs fill) g = where_safe es Free Mismatch (p.all_fit t f qs xs) (λ u l. tt) (all_safe es qs xs g.0) (nat_eq (parts qs) (count xs))
      fit_safe es (ListPattern qs) (Array [] xs fill) g = free_safe es Mismatch
      fit_safe es (ListPattern qs) (Array (n ∷ (m ∷ shape)) xs fill) g = free_safe es Mismatch
      fit_safe es (ListPattern qs) (Namespace n) g = where_safe es Free Mismatch _ (λ u l. tt) (λ s. where_safe es Free Missing (p.fields_fit t f qs n) (λ u l. tt) (fields_safe es qs n) (p.has_fields t f s n qs) s) (p.are_names qs)
      fit_safe es (ListPattern qs) (Number m) g = free_safe es Mismatch
      fit_safe es (ListPattern qs) (Character c) g = free_safe es Mismatch
      fit_safe es (ListPattern qs) (Given code) g = free_safe es Mismatch
      fit_safe es (ListPattern qs) (Derived maker parts) g = free_safe es Mismatch
      fit_safe es (ListPattern qs) (Function b n xs) g = free_safe es Mismatch
      fit_safe es (ListPattern qs) (Modifier1 b n) g = free_safe es Mismatch
      fit_safe es (ListPattern qs) (Modifier2 b n) g = free_safe es Mismatch

      all_safe : (es : Envs) (qs : Patterns) (xs : Values) → AllGood t es xs → Safe es Free (p.all_fit t f qs xs)
      all_safe es no_patterns xs g = free_safe es Fits
      all_safe es (and_patterns q qs) none g = free_safe es Fits
      all_safe es (and_patterns q qs) (more x xs) g = bind_safe {A = Fit} {B = Fit} es Free Free (p.fit t f q x) (and_fit (p.all_fit t f qs xs)) (fit_safe es q x g.0) (λ u l r h. and_safe u (p.all_fit t f qs xs) (all_safe u qs xs (all_later t es u l xs g.1)) r)

      fields_safe : (es : Envs) (qs : Patterns) (n : ℕ) → Safe es Free (p.fields_fit t f qs n)
      fields_safe es no_patterns n = free_safe es Fits
      fields_safe es (and_patterns q qs) n = bind_safe {A = Value} {B = Fit} es (Good t) Free (v.field t (p.name_of f q) (Namespace n)) (λ x. p.fit t f q x >>= and_fit (p.fields_fit t f qs n)) (field_safe es (p.name_of f q) (Namespace n))
          (λ u l x g. bind_safe {A = Fit} {B = Fit} u Free Free (p.fit t f q x) (and_fit (p.fields_fit t f qs n)) (fit_safe u q x g) (λ w m r h. and_safe w (p.fields_fit t f qs n) (fields_safe w qs n) r))

    pub bind_pattern_safe : (es : Envs) (q : Pattern) (x : Value) → Good t es x → Safe es Free (p.bind t f q x)
    bind_pattern_safe es q x g = bind_safe {A = Fit} {B = Unit {0}} es Free Free (p.fit t f q x) must_fit (fit_safe es q x g) (λ u l r h. must u r)
      where
        must : (u : Envs) (r : Fit) → Safe {A = Unit {0}} u Free (must_fit r)
        must u Fits s l h = (same s.environments, h, tt)
        must u Mismatch s l h = (same s.environments, h)
        must u Missing s l h = (same s.environments, h)

    pub fits_safe : (es : Envs) (q : Pattern) (x : Option Value) → GoodIfAny t es x → Safe es Free (used x >>= (λ y. p.fit t f q y >>= (λ r. pure (does_fit r))))
    fits_safe es q x g = used_safe {B = Bool} es Free x (λ y. p.fit t f q y >>= (λ r. pure (does_fit r))) g
        (λ u l y h. bind_safe {A = Fit} {B = Bool} u Free Free (p.fit t f q y) (λ r. pure (does_fit r)) (fit_safe u q y h) (λ w m r k. pure_safe w Free (does_fit r) (λ q n. tt)))

  pub stays_safe : (es : Envs) (store : Value → Does (Unit {0})) (x : Option Value) → ((u : Envs) (y : Value) → Good t u y → Safe u Free (store y)) → GoodIfAny t es x → Safe es (GoodIfAny t) (e.stays store x)
  stays_safe es store x a g = used_safe es (GoodIfAny t) x _ g (λ u l y h. bind_safe {A = Unit {0}} {B = Option Value} u Free (GoodIfAny t) (store y) (λ z. pure (Some y)) (a u y h) (λ w m z k. pure_safe w (GoodIfAny t) (Some y) (λ q n. good_later t u q (on u w q m n) y h)))
