-- Actions over names and over slots that do the same, one behind another.
use Rattle.std.proofs.Common.{◌≡◌, Bool, true, false, Option, Some, None, Result, Ok, Err, refl, ap, ◌∙◌}
use Rattle.bqn_base.specs.declared.fault.Fault.{Fault}
use Rattle.bqn_base.specs.declared.place.Place.{Place}
use Rattle.bqn_rows.specs.Raised.{Raised, placed}
use Rattle.bqn_rows.specs.Plain.{Value}
use Rattle.bqn_rows.specs.Running.{Res, Gives, Ends, then_do}
use Rattle.bqn_meaning.specs.Actions.{at as at_place, go_on, ◌>>=◌, pure, fault, known, found, used, where_so}
use Rattle.bqn_meaning.specs.Environments as s
use Rattle.bqn_meaning.specs.Frames.{given}
use Rattle.bqn_execution.specs.States as c
use Rattle.bqn_execution.specs.States.{Halted, Spends}
use Rattle.bqn_simulation.specs.Views.{onto, Same}

-- what follows an answer; a fault and the end of the steps pass on
abbrev pub into : {A B : Type 0} → (s.State → c.State) → Res s.State s.State (Result A Raised) → (A → s.State → Res Halted c.State (Result B Raised)) → Res Halted c.State (Result B Raised)
into g (Gives (Ok a) t) k = k a t
into g (Gives (Err f) t) k = Gives (Err f) (g t)
into g (Ends t) k = Ends (Spends (g t))

module _ (g : s.State → c.State) where
  pub into_bind : {A B C : Type 0} (r : Res s.State s.State (Result A Raised)) (k : A → s.Does B) (l : B → s.State → Res Halted c.State (Result C Raised)) → into g (then_do r (go_on k)) l ≡ into g r (λ a t. into g (k a t) l)
  into_bind (Gives (Ok a) t) k l = refl
  into_bind (Gives (Err f) t) k l = refl
  into_bind (Ends t) k l = refl

  pub into_same : {A B : Type 0} (r : Res s.State s.State (Result A Raised)) (k l : A → s.State → Res Halted c.State (Result B Raised)) → ((a : A) (t : s.State) → k a t ≡ l a t) → into g r k ≡ into g r l
  into_same r k l e = λ i. into g r (λ a t. e a t i)

  onto_into : {A B : Type 0} (r : Res s.State s.State (Result A Raised)) (k : A → c.Does B) → then_do (onto g r) (go_on k) ≡ into g r (λ a t. k a (g t))
  onto_into (Gives (Ok a) t) k = refl
  onto_into (Gives (Err f) t) k = refl
  onto_into (Ends t) k = refl

  pub through : {A B : Type 0} (q : Res Halted c.State (Result A Raised)) (r : Res s.State s.State (Result A Raised)) (k : A → c.Does B) → q ≡ onto g r → then_do q (go_on k) ≡ into g r (λ a t. k a (g t))
  through q r k e = ap (λ z. then_do z (go_on k)) e ∙ onto_into r k

  pub into_onto : {A B : Type 0} (r : Res s.State s.State (Result A Raised)) (k : A → s.Does B) → into g r (λ a t. onto g (k a t)) ≡ onto g (then_do r (go_on k))
  into_onto (Gives (Ok a) t) k = refl
  into_onto (Gives (Err f) t) k = refl
  into_onto (Ends t) k = refl

  -- ---- one behind the other

  pub binds : {A B : Type 0} {m : s.Does A} {n : c.Does A} {k : A → s.Does B} {l : A → c.Does B} → Same g m n → ((a : A) → Same g (k a) (l a)) → Same g (m >>= k) (n >>= l)
  binds {m = m} {n = n} {k = k} {l = l} p q = record { is = λ t. through (n (g t)) (m t) l (p.is t) ∙ (into_same (m t) _ _ (λ a u. (q a).is u) ∙ into_onto (m t) k) }

  pub pures : {A : Type 0} (a : A) → Same g (pure a) (pure a)
  pures a = record { is = λ t. refl }

  pub faults : {A : Type 0} (f : Fault) → Same g {A = A} (fault f) (fault f)
  faults f = record { is = λ t. refl }

  pub knows : {A : Type 0} (r : Result A Fault) → Same g (known r) (known r)
  knows r = record { is = λ t. refl }

  pub finds : {A : Type 0} (f : Fault) (x : Option A) → Same g (found f x) (found f x)
  finds f None = record { is = λ t. refl }
  finds f (Some x) = record { is = λ t. refl }

  pub uses : {A B : Type 0} (x : Option A) {k : A → s.Does B} {l : A → c.Does B} → ((a : A) → Same g (k a) (l a)) → Same g (used x >>= k) (used x >>= l)
  uses x q = binds (finds _ x) q

  pub gives : {m : s.Does Value} {n : c.Does Value} → Same g m n → Same g (m >>= given) (n >>= given)
  gives p = binds p (λ v. pures (Some v))

  -- an operation at a place
  pub ats : {A : Type 0} (p : Place) {m : s.Does A} {n : c.Does A} → Same g m n → Same g (at_place p m) (at_place p n)
  ats {A = A} p {m = m} {n = n} q = record { is = λ t. ap (λ r. then_do r (λ x. Gives (placed p x))) (q.is t) ∙ by (m t) }
    where
      by : (r : Res s.State s.State (Result A Raised)) → then_do (onto g r) (λ x. Gives (placed p x)) ≡ onto g (then_do r (λ x. Gives (placed p x)))
      by (Gives x u) = refl
      by (Ends u) = refl

  pub where_same : {A : Type 0} (otherwise : A) {m : s.Does A} {n : c.Does A} → Same g m n → (b : Bool) → Same g (where_so otherwise m b) (where_so otherwise n b)
  where_same otherwise p true = p
  where_same otherwise p false = pures otherwise

-- ---- grouping

pub bind_assoc : {A B C : Type 0} (m : s.Does A) (k : A → s.Does B) (l : B → s.Does C) (t : s.State) → (m >>= (λ a. k a >>= l)) t ≡ (m >>= k >>= l) t
bind_assoc m k l t = by (m t)
  where
    by : (r : Res s.State s.State (Result _ Raised)) → then_do r (go_on (λ a. k a >>= l)) ≡ then_do (then_do r (go_on k)) (go_on l)
    by (Gives (Ok a) u) = refl
    by (Gives (Err f) u) = refl
    by (Ends u) = refl

-- ---- what holds of each answer

abbrev pub OnAnswer : {A : Type 0} → (A → Type 0) → Res s.State s.State (Result A Raised) → Type 0
OnAnswer P (Gives (Ok a) t) = P a
OnAnswer P (Gives (Err f) t) = Unit {0}
OnAnswer P (Ends t) = Unit {0}

pub record Only {A : Type 0} (P : A → Type 0) (m : s.Does A) : Type 0 where
  pub all : (t : s.State) → OnAnswer P (m t)

pub into_where : {A B : Type 0} (g : s.State → c.State) (P : A → Type 0) (r : Res s.State s.State (Result A Raised)) (k l : A → s.State → Res Halted c.State (Result B Raised)) → OnAnswer P r → ((a : A) → P a → (t : s.State) → k a t ≡ l a t) → into g r k ≡ into g r l
into_where g P (Gives (Ok a) t) k l o e = e a o t
into_where g P (Gives (Err f) t) k l o e = refl
into_where g P (Ends t) k l o e = refl

pub only_pure : {A : Type 0} (P : A → Type 0) (a : A) → P a → Only P (pure a)
only_pure P a p = record { all = λ t. p }

pub only_known : {A : Type 0} (P : A → Type 0) (r : Result A Fault) → ((a : A) → r ≡ Ok a → P a) → Only P (known r)
only_known P (Ok a) p = record { all = λ t. p a refl }
only_known P (Err f) p = record { all = λ t. tt }

pub only_at : {A : Type 0} (P : A → Type 0) (p : Place) {m : s.Does A} → Only P m → Only P (at_place p m)
only_at {A = A} P p {m = m} o = record { all = λ t. by (m t) (o.all t) }
  where
    by : (r : Res s.State s.State (Result A Raised)) → OnAnswer P r → OnAnswer P (then_do r (λ x. Gives (placed p x)))
    by (Gives (Ok a) u) w = w
    by (Gives (Err f) u) w = tt
    by (Ends u) w = tt

pub only_bind : {A B : Type 0} (Q : A → Type 0) (P : B → Type 0) {m : s.Does A} {k : A → s.Does B} → Only Q m → ((a : A) → Q a → Only P (k a)) → Only P (m >>= k)
only_bind {A = A} {B = B} Q P {m = m} {k = k} o q = record { all = λ t. by (m t) (o.all t) }
  where
    by : (r : Res s.State s.State (Result A Raised)) → OnAnswer Q r → OnAnswer P (then_do r (go_on k))
    by (Gives (Ok a) u) w = (q a w).all u
    by (Gives (Err f) u) w = tt
    by (Ends u) w = tt

pub only_any : {A : Type 0} (m : s.Does A) → Only (λ a. Unit {0}) m
only_any {A = A} m = record { all = λ t. by (m t) }
  where
    by : (r : Res s.State s.State (Result A Raised)) → OnAnswer (λ a. Unit {0}) r
    by (Gives (Ok a) u) = tt
    by (Gives (Err f) u) = tt
    by (Ends u) = tt
