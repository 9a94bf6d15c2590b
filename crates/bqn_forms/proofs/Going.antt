-- A run in the midst of its code.
use Rattle.std.proofs.Common.{◌≡◌, ◌≢◌, ◌-◌, ℕ, zero, suc, ℤ, List, [], ◌∷◌, ◌++◌, slice_get, Option, Some, None, Result, Ok, Err, refl, sym, ap, ◌∙◌, subst, append_assoc, arith, rules, ◌<◌, ◌+◌, drop, get_or, length, drop-cons, add-one}
use Rattle.std.specs.Prelude.{IsSome}
use Rattle.std.proofs.lemmas.List.{append-nil}
use Rattle.bqn_base.specs.declared.fault.Fault.TheVariants.{Undefined}
use Rattle.bqn_base.specs.declared.place.Place.{Place}
use Rattle.bqn_io.specs.Writing.{Adds, AddsPart, Breaks}
use Rattle.bqn_io.proofs.Writing.{adds-nothing, adds-then, adds-then-part, adds-then-breaks}
use Rattle.bqn_forms.specs.Evaluation.{State, Res, Gives, Faults, Spends, wrote, raised, answered, answer_at, output_of, known_value}
use Rattle.bqn_forms.specs.declared.raised.Raised.{Raised}
use Rattle.bqn_forms.specs.declared.code.Instr.{Instr}
use Rattle.bqn_forms.specs.declared.code.Instr.TheVariants.{Const, Load, Define, Call1, Call2, Pop}
use Rattle.bqn_forms.specs.declared.end.End.{End}
use Rattle.bqn_forms.specs.declared.end.End.TheVariants as end
use Rattle.bqn_forms.specs.Execution.{Run, on_answer, exec, executed}
use Rattle.bqn_forms.specs.Running.{Act, pushed, loaded, act, vars_behind, written_by, Acts, Ends, EndsAs}

-- how a run goes on after an answer
abbrev after_answer : Result (List ℤ) Raised → List Instr → State → Run
after_answer (Ok stack) code t = exec code stack t
after_answer (Err f) code t = Some (Faults f t)

-- how a run goes on after an instruction
abbrev after_act : Option Act → List Instr → State → Run
after_act None code s = None
after_act (Some a) code s = after_answer a.answer code (wrote s a.output)

wrote-nil : (s : State) → s ≡ wrote s []
wrote-nil s = ap (λ (b : List ℕ). record s { written = b }) (sym (append-nil s.written))

after_answer-pushed : (r : Result ℤ Raised) (stack : List ℤ) (code : List Instr) (t : State) → on_answer (answered r t) (λ y u. exec code (y ∷ stack) u) ≡ after_answer (pushed stack r) code t
after_answer-pushed (Ok y) stack code t = refl
after_answer-pushed (Err f) stack code t = refl

after_answer-loaded : (place : Place) (o : Option ℤ) (stack : List ℤ) (code : List Instr) (s : State) → on_answer (known_value place o s) (λ y t. exec code (y ∷ stack) t) ≡ after_answer (loaded place stack o) code (wrote s [])
after_answer-loaded place None stack code s = ap (λ (t : State). Some (Faults (raised place Undefined) t)) (wrote-nil s)
after_answer-loaded place (Some v) stack code s = ap (λ (t : State). exec code (v ∷ stack) t) (wrote-nil s)

-- a state with other values of the names
abbrev with_vars : State → List ℤ → State
with_vars s vars = record s { vars = vars }

exec-act : (i : Instr) (code : List Instr) (stack : List ℤ) (s : State) → exec (i ∷ code) stack s ≡ after_act (act i stack s.vars) code (with_vars s (vars_behind i stack s.vars))
exec-act (Const x) code stack s = ap (λ (t : State). exec code (x ∷ stack) t) (wrote-nil s)
exec-act (Load number place) code stack s = after_answer-loaded place (slice_get s.vars number) stack code s
exec-act Define code [] s = refl
exec-act Define code (x ∷ stack) s = ap (λ (t : State). exec code (x ∷ stack) t) (wrote-nil (with_vars s (s.vars ++ x ∷ [])))
exec-act (Call1 f) code [] s = refl
exec-act (Call1 f) code (x ∷ stack) s = after_answer-pushed (answer_at f None x) stack code (wrote s (output_of f.function None x))
exec-act (Call2 f) code [] s = refl
exec-act (Call2 f) code (w ∷ []) s = refl
exec-act (Call2 f) code (w ∷ x ∷ stack) s = after_answer-pushed (answer_at f (Some w) x) stack code (wrote s (output_of f.function (Some w) x))
exec-act Pop code [] s = refl
exec-act Pop code (x ∷ stack) s = ap (λ (t : State). exec code stack t) (wrote-nil s)

-- these bytes begin those
record Front (front bytes : List ℕ) : Type 0 where
  rest : List ℕ
  whole : bytes ≡ front ++ rest

front-same : (bytes : List ℕ) → Front bytes bytes
front-same bytes = record { rest = []; whole = sym (append-nil bytes) }

front-of : (x y bytes : List ℕ) → Front (x ++ y) bytes → Front x bytes
front-of x y bytes f = record { rest = y ++ f.rest; whole = f.whole ∙ append_assoc x y f.rest }

written-same : (r : Res (Unit {0})) (f : Raised) (t : State) → Some (Faults f t) ≡ Some r → t.written ≡ written_by r
written-same r f t e = ap (λ (o : Run). elim o [ None ↦ t.written | Some q ↦ written_by q ]) e

given-same : (r : Res (Unit {0})) (t : State) → Some (Gives tt t) ≡ Some r → t.written ≡ written_by r
given-same r t e = ap (λ (o : Run). elim o [ None ↦ t.written | Some q ↦ written_by q ]) e

-- what code is said to do of each state
abbrev Grows : List Instr → Type 0
Grows code = (stack : List ℤ) (s : State) (r : Res (Unit {0})) → exec code stack s ≡ Some r → Front s.written (written_by r)

grows-answer : (code : List Instr) → Grows code → (answer : Result (List ℤ) Raised) (t : State) (r : Res (Unit {0})) → after_answer answer code t ≡ Some r → Front t.written (written_by r)
grows-answer code ih (Ok stack) t r e = ih stack t r e
grows-answer code ih (Err f) t r e = subst (λ (b : List ℕ). Front t.written b) (written-same r f t e) (front-same t.written)

grows-act : (code : List Instr) → Grows code → (a : Option Act) (s : State) (r : Res (Unit {0})) → after_act a code s ≡ Some r → Front s.written (written_by r)
grows-act code ih None s r e = absurd (let p : None ≡ Some r = e in cc)
grows-act code ih (Some a) s r e = front-of s.written a.output (written_by r) (grows-answer code ih a.answer (wrote s a.output) r e)

-- the bytes of a run only grow
exec-grows : (code : List Instr) → Grows code
exec-grows [] stack s r e = subst (λ (b : List ℕ). Front s.written b) (given-same r s e) (front-same s.written)
exec-grows (i ∷ code) stack s r e = grows-act code (exec-grows code) (act i stack s.vars) (with_vars s (vars_behind i stack s.vars)) r (sym (exec-act i code stack s) ∙ e)

module _ {K : Type 0} (written : K → Option (List ℕ)) (room faults : K → ℕ) where
  -- a run has written this front, and the rest of the code does the rest
  pub record Going (whole : Run) (code : List Instr) (stack vars : List ℤ) (left : ℕ) (old now : K) : Type 0 where
    pub front : List ℕ
    pub whole_is : whole ≡ exec code stack (record { written = front; left = left; vars = vars })
    pub adds : Adds written room faults old now front

  executed-some : (code : List Instr) (steps : ℕ) → steps ≢ 0 → executed code steps ≡ exec code [] (record { written = []; left = steps - 1; vars = [] })
  executed-some code zero h = absurd (h refl)
  executed-some code (suc n) h = let e : n ≡ suc n - 1 = omega arith in ap (λ (left : ℕ). exec code [] (record { written = []; left = left; vars = [] })) e

  pub going-start : (code : List Instr) (steps : ℕ) (k : K) → steps ≢ 0 → Going (executed code steps) code [] [] (steps - 1) k k
  going-start code steps k h = record { front = []; whole_is = executed-some code steps h; adds = adds-nothing written room faults k }

  pub ends-spent : (code : List Instr) (steps : ℕ) (k : K) → steps ≡ 0 → EndsAs written room faults (executed code steps) k k end.Spent
  ends-spent code steps k e = subst (λ (n : ℕ). EndsAs written room faults (executed code n) k k end.Spent) (sym e) (adds-nothing written room faults k)

  pub going-end : (whole : Run) (stack vars : List ℤ) (left : ℕ) (old now : K) → Going whole [] stack vars left old now → EndsAs written room faults whole old now end.Done
  going-end whole stack vars left old now g = rw g.whole_is g.adds

  act-some : (a : Option Act) (code : List Instr) (s : State) → IsSome (after_act a code s) → IsSome a
  act-some None code s h = h
  act-some (Some a) code s h = search rules

  pub going-some : (whole : Run) (i : Instr) (code : List Instr) (stack vars : List ℤ) (left : ℕ) (old now : K) → IsSome whole → Going whole (i ∷ code) stack vars left old now → IsSome (act i stack vars)
  going-some whole i code stack vars left old now h g =
      act-some (act i stack vars) code (record { written = g.front; left = left; vars = vars_behind i stack vars }) (subst (λ (r : Run). IsSome r) (g.whole_is ∙ exec-act i code stack (record { written = g.front; left = left; vars = vars })) h)

  step-after : (whole : Run) (a : Option Act) (code : List Instr) (stack vars : List ℤ) (left : ℕ) (old mid new : K) (front : List ℕ)
      → whole ≡ after_act a code (record { written = front; left = left; vars = vars }) → Adds written room faults old mid front → Acts written room faults a stack mid new (Ok tt)
      → Going whole code stack vars left old new
  step-after whole None code stack vars left old mid new front w a h = absurd h
  step-after whole (Some act) code stack vars left old mid new front w a h = record {
    front = front ++ act.output;
    whole_is = w ∙ ap (λ (r : Result (List ℤ) Raised). after_answer r code (record { written = front ++ act.output; left = left; vars = vars })) h.0;
    adds = adds-then written room faults old mid new front act.output a h.1;
  }

  pub going-step : (whole : Run) (i : Instr) (code : List Instr) (stack vars after : List ℤ) (left : ℕ) (old mid new : K)
      → Going whole (i ∷ code) stack vars left old mid → Acts written room faults (act i stack vars) after mid new (Ok tt) → Going whole code after (vars_behind i stack vars) left old new
  going-step whole i code stack vars after left old mid new g h =
      step-after whole (act i stack vars) code after (vars_behind i stack vars) left old mid new g.front (g.whole_is ∙ exec-act i code stack (record { written = g.front; left = left; vars = vars })) g.adds h

  front-after : (a : Act) (code : List Instr) (s : State) (r : Res (Unit {0})) → after_act (Some a) code s ≡ Some r → Front (s.written ++ a.output) (written_by r)
  front-after a code s r e = grows-answer code (exec-grows code) a.answer (wrote s a.output) r e

  ends-memory : (r : Res (Unit {0})) (old new : K) → AddsPart written room faults old new (written_by r) → Ends written room faults r old new end.Memory
  ends-memory (Gives u s) old new p = p
  ends-memory (Faults f s) old new p = p
  ends-memory (Spends s) old new p = p

  ends-write_fault : (r : Res (Unit {0})) (old new : K) → Breaks written room faults old new (written_by r) → Ends written room faults r old new end.WriteFault
  ends-write_fault (Gives u s) old new p = p
  ends-write_fault (Faults f s) old new p = p
  ends-write_fault (Spends s) old new p = p

  -- what a halted instruction leaves, where the run would have been this one
  halt-after : (r : Res (Unit {0})) (a : Act) (code : List Instr) (stack vars : List ℤ) (left : ℕ) (old mid new : K) (front : List ℕ) (e : End)
      → Some r ≡ after_act (Some a) code (record { written = front; left = left; vars = vars }) → Adds written room faults old mid front → Acts written room faults (Some a) stack mid new (Err e)
      → EndsAs written room faults (Some r) old new e
  halt-after r a code stack vars left old mid new front (end.Faulted f) w adds h =
      let faults_so : Some r ≡ Some (Faults f (record { written = front ++ a.output; left = left; vars = vars })) = w ∙ ap (λ (x : Result (List ℤ) Raised). after_answer x code (record { written = front ++ a.output; left = left; vars = vars })) h.0 in
      subst (λ (o : Run). EndsAs written room faults o old new (end.Faulted f)) (sym faults_so) (refl, adds-then written room faults old mid new front a.output adds h.1)
  halt-after r a code stack vars left old mid new front end.Memory w adds h =
      let f : Front (front ++ a.output) (written_by r) = front-after a code (record { written = front; left = left; vars = vars }) r (sym w) in
      ends-memory r old new (subst (λ (b : List ℕ). AddsPart written room faults old new b) (sym f.whole) (adds-then-part written room faults old mid new front a.output f.rest adds h))
  halt-after r a code stack vars left old mid new front end.WriteFault w adds h =
      let f : Front (front ++ a.output) (written_by r) = front-after a code (record { written = front; left = left; vars = vars }) r (sym w) in
      ends-write_fault r old new (subst (λ (b : List ℕ). Breaks written room faults old new b) (sym f.whole) (adds-then-breaks written room faults old mid new front a.output f.rest adds h))
  halt-after r a code stack vars left old mid new front end.Done w adds h = absurd h
  halt-after r a code stack vars left old mid new front end.Spent w adds h = absurd h

  halt-some : (whole : Run) (a : Option Act) (code : List Instr) (stack vars : List ℤ) (left : ℕ) (old mid new : K) (front : List ℕ) (e : End)
      → IsSome whole → whole ≡ after_act a code (record { written = front; left = left; vars = vars }) → Adds written room faults old mid front → Acts written room faults a stack mid new (Err e)
      → EndsAs written room faults whole old new e
  halt-some whole None code stack vars left old mid new front e some w adds h = absurd h
  halt-some None (Some a) code stack vars left old mid new front e some w adds h = absurd (search rules)
  halt-some (Some r) (Some a) code stack vars left old mid new front e some w adds h = halt-after r a code stack vars left old mid new front e w adds h

  pub going-halt : (whole : Run) (i : Instr) (code : List Instr) (stack vars after : List ℤ) (left : ℕ) (old mid new : K) (e : End)
      → IsSome whole → Going whole (i ∷ code) stack vars left old mid → Acts written room faults (act i stack vars) after mid new (Err e) → EndsAs written room faults whole old new e
  going-halt whole i code stack vars after left old mid new e some g h =
      halt-some whole (act i stack vars) code after (vars_behind i stack vars) left old mid new g.front e some (g.whole_is ∙ exec-act i code stack (record { written = g.front; left = left; vars = vars })) g.adds h

  going-at : (whole : Run) (code : List Instr) (k : ℕ) (d : Instr) (stack vars : List ℤ) (left : ℕ) (old now : K) → k < length code → Going whole (drop k code) stack vars left old now → Going whole (get_or code k d ∷ drop (k + 1) code) stack vars left old now
  going-at whole code k d stack vars left old now lt g =
      subst (λ (is : List Instr). Going whole is stack vars left old now) (drop-cons code k d lt ∙ ap (λ (n : ℕ). get_or code k d ∷ drop n code) (sym (add-one k))) g

  pub going-step-at : (whole : Run) (code : List Instr) (k : ℕ) (d : Instr) (stack vars after after_vars : List ℤ) (left : ℕ) (old mid new : K)
      → k < length code → Going whole (drop k code) stack vars left old mid → Acts written room faults (act (get_or code k d) stack vars) after mid new (Ok tt)
      → after_vars ≡ vars_behind (get_or code k d) stack vars → Going whole (drop (k + 1) code) after after_vars left old new
  going-step-at whole code k d stack vars after after_vars left old mid new lt g h e =
      subst (λ (vs : List ℤ). Going whole (drop (k + 1) code) after vs left old new) (sym e)
      (going-step whole (get_or code k d) (drop (k + 1) code) stack vars after left old mid new (going-at whole code k d stack vars left old mid lt g) h)

  pub going-halt-at : (whole : Run) (code : List Instr) (k : ℕ) (d : Instr) (stack vars after : List ℤ) (left : ℕ) (old mid new : K) (e : End)
      → IsSome whole → k < length code → Going whole (drop k code) stack vars left old mid → Acts written room faults (act (get_or code k d) stack vars) after mid new (Err e) → EndsAs written room faults whole old new e
  going-halt-at whole code k d stack vars after left old mid new e some lt g h =
      going-halt whole (get_or code k d) (drop (k + 1) code) stack vars after left old mid new e some (going-at whole code k d stack vars left old mid lt g) h
