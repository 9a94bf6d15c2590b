-- What advances: actions one behind another, and those that read, store, take a step or write.
use Rattle.std.proofs.Common.{◌≡◌, ◌∙◌, ℕ, zero, suc, ◌+◌, Bool, true, false, List, [], ◌∷◌, ◌++◌, length, Option, Some, None, Result, Ok, Err, refl, sym, ap, subst, append_assoc, append-nil, arith}
use Rattle.std.specs.Prelude.{encode_utf8_all}
use Rattle.bqn_base.specs.declared.fault.Fault.{Fault}
use Rattle.bqn_base.specs.declared.place.Place.{Place}
use Rattle.bqn_rows.specs.Raised.{Raised, unplaced, placed}
use Rattle.bqn_rows.specs.Running.{Res, Gives, Ends, then_do}
use Rattle.bqn_meaning.specs.Actions.{at, go_on, ◌>>=◌, fault, found, used, where_so}
use Rattle.bqn_meaning.specs.Environments.{Environment, State, Does, stepped, wrote, within_new}
use Rattle.bqn_meaning.specs.Advancing.{Follows, state_of, with_more}

pub itself : (s : State) → Follows s s
itself s = record { more = []; written = sym (append-nil s.written); steps = omega arith }

pub then_follows : (s t u : State) → Follows s t → Follows t u → Follows s u
then_follows s t u a b = record {
  more = a.more ++ b.more;
  written = b.written ∙ ap (λ (w : List ℕ). w ++ b.more) a.written ∙ append_assoc s.written a.more b.more;
  steps = omega (arith, a.steps, b.steps);
}

-- with more steps left: the same, or, where steps were wanting, the run goes on
abbrev pub GoesOn : {A : Type 0} → ℕ → Res State State A → Res State State A → Type 0
GoesOn k (Gives a s) larger = larger ≡ Gives a (with_more k s)
GoesOn k (Ends s) larger = Follows (with_more k s) (state_of larger)

-- it only adds to what is written and takes steps, and with more steps left it goes on
pub record Advances {A : Type 0} (m : State → Res State State A) : Type 0 where
  pub follows : (s : State) → Follows s (state_of (m s))
  pub goes_on : (k : ℕ) (s : State) → GoesOn k (m s) (m (with_more k s))

-- ---- one behind the other

module _ {A B : Type 0} (next : A → State → Res State State B) (on : (a : A) → Advances (next a)) where
  then_from : (s : State) (r : Res State State A) → Follows s (state_of r) → Follows s (state_of (then_do r next))
  then_from s (Gives a t) f = then_follows s t (state_of (next a t)) f ((on a).follows t)
  then_from s (Ends t) f = f

  then_goes : (k : ℕ) (r larger : Res State State A) → GoesOn k r larger → GoesOn k (then_do r next) (then_do larger next)
  then_goes k (Gives a t) larger e = subst (λ (r : Res State State A). GoesOn k (next a t) (then_do r next)) (sym e) ((on a).goes_on k t)
  then_goes k (Ends t) larger f = then_from (with_more k t) larger f

  pub then_advances : (m : State → Res State State A) → Advances m → Advances (λ s. then_do (m s) next)
  then_advances m a = record {
    follows = λ s. then_from s (m s) (a.follows s);
    goes_on = λ k s. then_goes k (m s) (m (with_more k s)) (a.goes_on k s);
  }

pub gives : {A : Type 0} (a : A) → Advances (λ (s : State). Gives a s)
gives a = record { follows = itself; goes_on = λ k s. refl }

on_answer : {A B : Type 0} (next : A → Does B) → ((a : A) → Advances (next a)) → (r : Result A Raised) → Advances (go_on next r)
on_answer next on (Ok a) = on a
on_answer next on (Err f) = gives (Err f)

pub binds : {A B : Type 0} (m : Does A) (next : A → Does B) → Advances m → ((a : A) → Advances (next a)) → Advances (m >>= next)
binds m next a on = then_advances (go_on next) (on_answer next on) m a

pub fails : {A : Type 0} (f : Fault) → Advances {A = Result A Raised} (fault f)
fails f = gives (Err (unplaced f))

-- an operation at a place
pub places : {A : Type 0} (p : Place) (m : Does A) → Advances m → Advances (at p m)
places p m a = then_advances (λ r s. Gives (placed p r) s) (λ r. gives (placed p r)) m a

pub finds : {A : Type 0} (f : Fault) (x : Option A) → Advances (found f x)
finds f None = gives (Err (unplaced f))
finds f (Some x) = gives (Ok x)

pub uses : {A B : Type 0} (x : Option A) (next : A → Does B) → ((a : A) → Advances (next a)) → Advances (used x >>= next)
uses x next on = binds (used x) next (finds _ x) on

pub where_advances : {A : Type 0} (otherwise : A) (m : Does A) → Advances m → (b : Bool) → Advances (where_so otherwise m b)
where_advances otherwise m a true = a
where_advances otherwise m a false = gives (Ok otherwise)

-- ---- steps, texts and environments

module _ {A : Type 0} (go : State → Res State State A) (on : Advances go) where
  one-more : (n k : ℕ) → suc n + k ≡ suc (n + k)
  one-more n k = omega arith

  step-from : (es : List Environment) (w : List ℕ) (n : ℕ) → Follows (record { environments = es; written = w; left = n }) (state_of (stepped go (record { environments = es; written = w; left = n })))
  step-from es w zero = itself (record { environments = es; written = w; left = zero })
  step-from es w (suc n) = then_follows (record { environments = es; written = w; left = suc n }) (record { environments = es; written = w; left = n }) _ (record { more = []; written = sym (append-nil w); steps = omega arith }) (on.follows (record { environments = es; written = w; left = n }))

  step-on : (k : ℕ) (es : List Environment) (w : List ℕ) (n : ℕ) → GoesOn k (stepped go (record { environments = es; written = w; left = n })) (stepped go (record { environments = es; written = w; left = n + k }))
  step-on k es w zero = step-from es w (zero + k)
  step-on k es w (suc n) = subst (λ (m : ℕ). GoesOn k (go (record { environments = es; written = w; left = n })) (stepped go (record { environments = es; written = w; left = m }))) (sym (one-more n k)) (on.goes_on k (record { environments = es; written = w; left = n }))

  pub steps : Advances (stepped go)
  steps = record { follows = λ s. step-from s.environments s.written s.left; goes_on = λ k s. step-on k s.environments s.written s.left }

pub writes : (text : List ℕ) → Advances {A = Unit {0}} (λ (s : State). Gives tt (wrote text s))
writes text = record { follows = λ s. record { more = encode_utf8_all text; written = refl; steps = omega arith }; goes_on = λ k s. refl }

-- what changes the environments alone
pub puts : {A : Type 0} (a : A) (new : List Environment → List Environment) → Advances (λ (s : State). Gives a (record s { environments = new s.environments }))
puts a new = record { follows = λ s. record { more = []; written = sym (append-nil s.written); steps = omega arith }; goes_on = λ k s. refl }

-- what is done by something that the environments tell
pub depends : {X A : Type 0} (read : State → X) → ((k : ℕ) (s : State) → read (with_more k s) ≡ read s) → (m : X → State → Res State State A) → ((x : X) → Advances (m x)) → Advances (λ s. m (read s) s)
depends {X = X} {A = A} read same m on = record {
  follows = λ s. (on (read s)).follows s;
  goes_on = λ k s. subst (λ (x : X). GoesOn k (m (read s) s) (m x (with_more k s))) (sym (same k s)) ((on (read s)).goes_on k s);
}

pub opens : {A : Type 0} (body parent : ℕ) (next : ℕ → Does A) → ((n : ℕ) → Advances (next n)) → Advances (within_new body parent next)
opens body parent next on = record {
  follows = λ s. let f : Follows (entered s) (state_of (next (length s.environments) (entered s))) = (on (length s.environments)).follows (entered s) in record { more = f.more; written = f.written; steps = f.steps };
  goes_on = λ k s. (on (length s.environments)).goes_on k (entered s);
}
  where
    entered : State → State
    entered s = record s { environments = s.environments ++ record { body = body; parent = parent; variables = [] } ∷ [] }

pub chooses : {A : Type 0} (m n : Does A) → Advances m → Advances n → (b : Bool) → Advances (elim b [ true ↦ m | false ↦ n ])
chooses m n a b true = a
chooses m n a b false = b
