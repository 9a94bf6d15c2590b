-- Code that does what an action does, for whatever comes after it.
use Rattle.std.proofs.Common.{◌≡◌, Result, Ok, Err, List, [], ◌∷◌, ◌++◌, Option, Some, refl, sym, ap, ◌∙◌, subst, append_assoc}
use Rattle.bqn_base.specs.declared.place.Place.{Place}
use Rattle.bqn_rows.specs.Raised.{Raised, placed}
use Rattle.bqn_rows.specs.Running.{Res, Gives, Ends, then_do}
use Rattle.bqn_rows.specs.Plain.{Value}
use Rattle.bqn_meaning.specs.Actions.{at as at_place, go_on, ◌>>=◌, pure}
use Rattle.bqn_meaning.specs.Frames.{given}
use Rattle.bqn_meaning.specs.Environments as s
use Rattle.bqn_code.specs.declared.instr.Instr.{Instr}
use Rattle.bqn_execution.specs.States as c
use Rattle.bqn_code.specs.Numbering.{Table}
use Rattle.bqn_execution.specs.Variables.{Frame}
use Rattle.bqn_execution.specs.Operands.{Go, Stack, pushed, value}
use Rattle.bqn_execution.specs.Execution.{act, exec}
use Rattle.bqn_simulation.specs.Views.{Same}
use Rattle.bqn_simulation.proofs.running.Agree.{into, into_bind, into_same, through, gives, ats, bind_assoc, Only, into_where}

-- on top of a stack
abbrev pub push : Option Value → Stack → Stack
push v st = v ∷ st

abbrev pub as_is : Stack → Stack
as_is st = st

-- where code runs, and how states over names are seen there
pub record Side : Type 0 where
  pub view : s.State → c.State
  pub table : Table
  pub args : Value
  pub calling : c.Calling
  pub frame : Frame

module _ (o : Side) where
  abbrev g : s.State → c.State
  g = o.view

  abbrev run : List (Instr × Place) → Go
  run is = exec o.table o.args o.calling o.frame is

  -- From such a stack the code does what the action does, and goes on with such a stack.
  pub record Acts {A : Type 0} (xs : List (Instr × Place)) (m : s.Does A) (from : Stack → Stack) (to : A → Stack → Stack) : Type 0 where
    pub runs : (is : List (Instr × Place)) (st : Stack) (t : s.State) → run (xs ++ is) (from st) (g t) ≡ into g (m t) (λ a u. run is (to a st) (g u))

  pub seq : {A B : Type 0} {xs ys : List (Instr × Place)} {m : s.Does A} {k : A → s.Does B} {from : Stack → Stack} {mid : A → Stack → Stack} {to : B → Stack → Stack} →
      Acts xs m from mid → ((a : A) → Acts ys (k a) (mid a) to) → Acts (xs ++ ys) (m >>= k) from to
  seq {xs = xs} {ys = ys} {m = m} {k = k} {from = from} {mid = mid} {to = to} p q = record {
    runs = λ is st t.
        ap (λ z. run z (from st) (g t)) (append_assoc xs ys is)
        ∙ (p.runs (ys ++ is) st t
        ∙ (into_same g (m t) (λ a u. run (ys ++ is) (mid a st) (g u)) (λ a u. into g (k a u) (λ b v. run is (to b st) (g v))) (λ a u. (q a).runs is st u)
        ∙ sym (into_bind g (m t) k (λ b v. run is (to b st) (g v)))));
  }

  pub framed : {A : Type 0} {xs : List (Instr × Place)} {m : s.Does A} {from : Stack → Stack} {to : A → Stack → Stack} (p : Stack → Stack) → Acts xs m from to → Acts xs m (λ st. from (p st)) (λ a st. to a (p st))
  framed p x = record { runs = λ is st t. x.runs is (p st) t }

  pub still : {A : Type 0} (to : A → Stack → Stack) (a : A) → Acts [] (pure a) (to a) to
  still to a = record { runs = λ is st t. refl }

  pub recoded : {A : Type 0} {xs ys : List (Instr × Place)} {m : s.Does A} {from : Stack → Stack} {to : A → Stack → Stack} → xs ≡ ys → Acts xs m from to → Acts ys m from to
  recoded {m = m} {from = from} {to = to} e x = subst (λ z. Acts z m from to) e x

  pub treed : {A : Type 0} {xs : List (Instr × Place)} {m : s.Does A} {from : Stack → Stack} {to : A → Stack → Stack} (n : s.Does A) → ((t : s.State) → m t ≡ n t) → Acts xs m from to → Acts xs n from to
  treed {xs = xs} {m = m} {from = from} {to = to} n e x = record { runs = λ is st t. x.runs is st t ∙ ap (λ r. into g r (λ a u. run is (to a st) (g u))) (e t) }

  -- the code in the other grouping
  pub grouped : {A : Type 0} (xs ys zs : List (Instr × Place)) {m : s.Does A} {from : Stack → Stack} {to : A → Stack → Stack} → Acts (xs ++ (ys ++ zs)) m from to → Acts ((xs ++ ys) ++ zs) m from to
  grouped xs ys zs x = recoded (sym (append_assoc xs ys zs)) x

  -- the action in the other grouping
  pub nested : {A B C : Type 0} {xs : List (Instr × Place)} (m : s.Does A) (k : A → s.Does B) (l : B → s.Does C) {from : Stack → Stack} {to : C → Stack → Stack} → Acts xs (m >>= (λ a. k a >>= l)) from to → Acts xs (m >>= k >>= l) from to
  nested m k l x = treed (m >>= k >>= l) (bind_assoc m k l) x

  -- one instruction at a place, that takes from the stack and pushes
  pub single : (i : Instr) (p : Place) (from : Stack → Stack) {m : s.Does (Option Value)} {n : c.Does (Option Value)} → ((next : Go) (st : Stack) (t : c.State) → act o.table o.args o.calling o.frame i p next (from st) t ≡ pushed p n next st t) → Same g m n → Acts ((i, p) ∷ []) (at_place p m) from push
  single i p from {m = m} {n = n} e q = record { runs = λ is st t. e (run is) st (g t) ∙ through g (at_place p n (g t)) (at_place p m t) (λ v. run is (v ∷ st)) ((ats g p q).is t) }

  pub single_value : (i : Instr) (p : Place) (from : Stack → Stack) {m : s.Does Value} {n : c.Does Value} → ((next : Go) (st : Stack) (t : c.State) → act o.table o.args o.calling o.frame i p next (from st) t ≡ pushed p (value n) next st t) → Same g m n → Acts ((i, p) ∷ []) (at_place p m) from (λ x. push (Some x))
  single_value i p from {m = m} {n = n} e q = record {
    runs = λ is st t.
        e (run is) st (g t)
        ∙ (ap (λ r. then_do r (go_on (λ v. run is (v ∷ st)))) (value_at (n (g t)))
        ∙ (through g (value (at_place p n) (g t)) (value_in (at_place p m) t) (λ v. run is (v ∷ st)) ((gives g (ats g p q)).is t)
        ∙ into_bind g (at_place p m t) (λ x. given x) (λ v u. run is (v ∷ st) (g u))));
  }
    where
      value_in : s.Does Value → s.Does (Option Value)
      value_in m = m >>= given

      value_at : (r : c.Ran Value) → then_do (then_do r (go_on given)) (λ x. Gives (placed p x)) ≡ then_do (then_do r (λ x. Gives (placed p x))) (go_on given)
      value_at (Gives (Ok x) u) = refl
      value_at (Gives (Err x) u) = refl
      value_at (Ends x) = refl

  -- three, in the grouping of the translation
  pub seq3 : {A B C : Type 0} (xs ys zs : List (Instr × Place)) {m : s.Does A} {k : A → s.Does B} {l : A → B → s.Does C} {from : Stack → Stack} {mid : A → Stack → Stack} {mid2 : A → B → Stack → Stack} {to : C → Stack → Stack} →
      Acts xs m from mid → ((a : A) → Acts ys (k a) (mid a) (mid2 a)) → ((a : A) (b : B) → Acts zs (l a b) (mid2 a b) to) → Acts ((xs ++ ys) ++ zs) (m >>= (λ a. k a >>= l a)) from to
  seq3 xs ys zs p q r = grouped xs ys zs (seq p (λ a. seq (q a) (r a)))

  -- what is done with the answer
  pub mapped : {A B : Type 0} (h : A → B) {xs : List (Instr × Place)} {m : s.Does A} {from : Stack → Stack} (to : B → Stack → Stack) → Acts xs m from (λ a. to (h a)) → Acts xs (m >>= (λ a. pure (h a))) from to
  mapped h {m = m} to x = record { runs = λ is st t. x.runs is st t ∙ sym (into_bind g (m t) (λ a. pure (h a)) (λ b u. run is (to b st) (g u))) }

  -- ---- what holds of each answer

  pub seq_where : {A B : Type 0} (P : A → Type 0) {xs ys : List (Instr × Place)} {m : s.Does A} {k : A → s.Does B} {from : Stack → Stack} {mid : A → Stack → Stack} {to : B → Stack → Stack} →
      Only P m → Acts xs m from mid → ((a : A) → P a → Acts ys (k a) (mid a) to) → Acts (xs ++ ys) (m >>= k) from to
  seq_where P {xs = xs} {ys = ys} {m = m} {k = k} {from = from} {mid = mid} {to = to} w p q = record {
    runs = λ is st t.
        ap (λ z. run z (from st) (g t)) (append_assoc xs ys is)
        ∙ (p.runs (ys ++ is) st t
        ∙ (into_where g P (m t) (λ a u. run (ys ++ is) (mid a st) (g u)) (λ a u. into g (k a u) (λ b v. run is (to b st) (g v))) (w.all t) (λ a x u. (q a x).runs is st u)
        ∙ sym (into_bind g (m t) k (λ b v. run is (to b st) (g v)))));
  }
