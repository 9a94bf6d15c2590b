-- A line of a session over names and over slots, where its code is known to fit.
use Rattle.std.proofs.Common.{◌≡◌, ℕ, ◌+◌, ◌-◌, ◌||◌, Bool, true, false, List, [], ◌∷◌, ◌++◌, length, map, replicate, slice_get, Option, Some, None, Result, Ok, Err, refl, sym, ap, ◌∙◌, subst, arith}
use Rattle.std.proofs.lemmas.Bool.{false≢true}
use Rattle.std.proofs.lemmas.List.{length-map, map-append, length-append}
use Rattle.bqn_rows.specs.Raised.{Raised}
use Rattle.bqn_rows.specs.Plain.{Value}
use Rattle.bqn_base.specs.declared.fault.Fault.TheVariants.{NoBody}
use Rattle.bqn_rows.specs.Running as running
use Rattle.bqn_rows.specs.Running.{Res, Gives, Ends, then_do}
use Rattle.bqn_syntax.specs.grammar.Trees.{Stmts}
use Rattle.bqn_syntax.specs.scope.Scope.{same_name, has}
use Rattle.bqn_meaning.specs.Actions.{go_on, ◌>>=◌, pure, fault}
use Rattle.bqn_syntax.specs.blocks.Blocks as source
use Rattle.bqn_syntax.specs.blocks.Blocks.{Earlier, further, line_body}
use Rattle.bqn_meaning.specs.Environments as s
use Rattle.bqn_meaning.specs.Frames.{Setting}
use Rattle.bqn_meaning.specs.Meaning as m
use Rattle.bqn_meaning.specs.Meaning.{Ending, NextBody, EndsWith, eval_body}
use Rattle.bqn_meaning.specs.Sessions as l
use Rattle.bqn_meaning.specs.Sessions.{names_before, with_names, with_old_names, line_setting, line_frame, line_answer, line}
use Rattle.bqn_execution.specs.States as c
use Rattle.bqn_code.specs.Numbering.{Table, BodyAt}
use Rattle.bqn_execution.specs.Execution as e
use Rattle.bqn_execution.specs.Programs as p
use Rattle.bqn_compile.proofs.verified.slots.Fronts.{same_equal, same_itself}
use Rattle.bqn_simulation.specs.Views.{slots, view, onto, Same, Agree}
use Rattle.bqn_simulation.proofs.running.Agree.{binds, pures, faults}
use Rattle.bqn_simulation.proofs.running.Bodies.{ended, body_same}
use Rattle.bqn_simulation.proofs.running.Calls.{BodyFits, Alike, shared, steps, calls_same}

-- ---- what a line declares has no value yet

value_kept : (old : List (List ℕ)) (y : List ℕ) (vars : List (List ℕ × Value)) → has old y ≡ true → s.value_of (with_names old vars) y ≡ s.value_of vars y
value_kept old y [] h = refl
value_kept old y (p ∷ ps) h = by (value_kept old y ps h) (has old p.0) refl
  where
    other : has old p.0 ≡ false → (b : Bool) → same_name p.0 y ≡ b → b ≡ false
    other q false t = refl
    other q true t = absurd (false≢true (sym q ∙ ap (has old) (same_equal p.0 y t) ∙ h))

    by : s.value_of (with_names old ps) y ≡ s.value_of ps y → (b : Bool) → has old p.0 ≡ b → s.value_of (elim b as (λ z. List (List ℕ × Value)) [ true ↦ p ∷ with_names old ps | false ↦ with_names old ps ]) y ≡ s.or_older (same_name p.0 y) p.1 (s.value_of ps y)
    by ih true q = ap (s.or_older (same_name p.0 y) p.1) ih
    by ih false q = ih ∙ sym (ap (λ b. s.or_older b p.1 (s.value_of ps y)) (other q (same_name p.0 y) refl))

value_gone : (old : List (List ℕ)) (y : List ℕ) (vars : List (List ℕ × Value)) → has old y ≡ false → s.value_of (with_names old vars) y ≡ None
value_gone old y [] h = refl
value_gone old y (p ∷ ps) h = by (value_gone old y ps h) (has old p.0) refl
  where
    other : has old p.0 ≡ true → (b : Bool) → same_name p.0 y ≡ b → b ≡ false
    other q false t = refl
    other q true t = absurd (false≢true (sym h ∙ ap (has old) (sym (same_equal p.0 y t)) ∙ q))

    by : s.value_of (with_names old ps) y ≡ None → (b : Bool) → has old p.0 ≡ b → s.value_of (elim b as (λ z. List (List ℕ × Value)) [ true ↦ p ∷ with_names old ps | false ↦ with_names old ps ]) y ≡ None
    by ih true q = ap (λ b. s.or_older b p.1 (s.value_of (with_names old ps) y)) (other q (same_name p.0 y) refl) ∙ ih
    by ih false q = ih

-- each of these is among those, or none is
abbrev pub AllHere : List (List ℕ) → List (List ℕ) → Type 0
AllHere old [] = Unit {0}
AllHere old (y ∷ ys) = (has old y ≡ true) × AllHere old ys

abbrev pub NoneHere : List (List ℕ) → List (List ℕ) → Type 0
NoneHere old [] = Unit {0}
NoneHere old (y ∷ ys) = (has old y ≡ false) × NoneHere old ys

all_kept : (old ys : List (List ℕ)) (vars : List (List ℕ × Value)) → AllHere old ys → map (s.value_of (with_names old vars)) ys ≡ map (s.value_of vars) ys
all_kept old [] vars a = refl
all_kept old (y ∷ ys) vars a = λ i. value_kept old y vars a.0 i ∷ all_kept old ys vars a.1 i

all_gone : (old ys : List (List ℕ)) (vars : List (List ℕ × Value)) → NoneHere old ys → map (s.value_of (with_names old vars)) ys ≡ replicate (length ys) None
all_gone old [] vars a = refl
all_gone old (y ∷ ys) vars a = λ i. value_gone old y vars a.0 i ∷ all_gone old ys vars a.1 i

here_more : (y : List ℕ) (old ys : List (List ℕ)) → AllHere old ys → AllHere (y ∷ old) ys
here_more y old [] a = tt
here_more y old (z ∷ ys) a = (by (same_name y z) a.0, here_more y old ys a.1)
  where
    by : (b : Bool) → has old z ≡ true → (b || has old z) ≡ true
    by true h = refl
    by false h = h

all_here : (old : List (List ℕ)) → AllHere old old
all_here [] = tt
all_here (y ∷ old) = (ap (λ b. b || has old y) (same_itself y), here_more y old old (all_here old))

-- the names that a body has gained
pub record Grows (old new : List (List ℕ)) : Type 0 where
  pub more : List (List ℕ)
  pub are : new ≡ old ++ more
  pub new_ones : NoneHere old more

left_over : (old more all : ℕ) → all ≡ old + more → all - old ≡ more
left_over old more all q = omega (arith, q)

-- ---- the line

pub record LineFits (earlier : Earlier) (ss : Stmts) (args : Value) (tb : Table) : Type 0 where
  pub alike : Alike (names_before (further earlier ss)) tb (line_setting earlier args ss)
  pub top : BodyAt
  pub top_is : slice_get tb.bodies 0 ≡ Some top
  pub fits : BodyFits (names_before (further earlier ss)) tb (line_setting earlier args ss) top.here 0 (line_body earlier ss) top.body
  pub widths : (k : ℕ) → p.slots_in (slice_get tb.bodies k) ≡ length (names_before (further earlier ss) k)
  pub grows : (k : ℕ) → Grows (names_before earlier k) (names_before (further earlier ss) k)

module _ (earlier : Earlier) (ss : Stmts) (args : Value) (tb : Table) (fits : LineFits earlier ss args tb) where
  abbrev old : ℕ → List (List ℕ)
  old = names_before earlier

  abbrev new : ℕ → List (List ℕ)
  new = names_before (further earlier ss)

  abbrev g : Setting
  g = line_setting earlier args ss

  begins_as : (x : s.Environment) → slots new (with_old_names earlier x) ≡ p.widened tb (slots old x)
  begins_as x =
      let w : Grows (old x.body) (new x.body) = fits.grows x.body in
      let n : p.slots_in (slice_get tb.bodies x.body) - length (map (s.value_of x.variables) (old x.body)) ≡ length w.more =
      left_over _ _ _ (fits.widths x.body ∙ (ap (λ l. length l) w.are ∙ (length-append (old x.body) w.more ∙ ap (λ k. k + length w.more) (sym (length-map (old x.body) (s.value_of x.variables)))))) in
      ap (λ vs. record { body = x.body; parent = x.parent; variables = vs })
      (ap (map (s.value_of (with_names (old x.body) x.variables))) w.are
      ∙ (map-append (s.value_of (with_names (old x.body) x.variables)) (old x.body) w.more
      ∙ (ap (λ l. l ++ map (s.value_of (with_names (old x.body) x.variables)) w.more) (all_kept (old x.body) (old x.body) x.variables (all_here (old x.body)))
      ∙ (ap (λ l. map (s.value_of x.variables) (old x.body) ++ l) (all_gone (old x.body) w.more x.variables w.new_ones)
      ∙ ap (λ k. map (s.value_of x.variables) (old x.body) ++ replicate k None) (sym n)))))

  all_begin : (es : List s.Environment) → map (slots new) (map (with_old_names earlier) es) ≡ map (p.widened tb) (map (slots old) es)
  all_begin [] = refl
  all_begin (x ∷ es) = λ i. begins_as x i ∷ all_begin es i

  begun_as : (t : s.State) → p.begun tb (view old t) ≡ view new (l.begun earlier t)
  begun_as t = ap (λ es. record { environments = es; written = t.written; left = t.left }) (sym (all_begin t.environments))

  -- how a line ends
  abbrev end_of : Ending → s.Does (Option Value)
  end_of NextBody = fault NoBody
  end_of (EndsWith p v) = pure v

  ends : (b : source.Body) (x : s.Does Ending) {n : c.Does (Option Value)} → Same (view new) ((x >>= (λ r. pure (ended 0 b.exports r))) >>= end_of) n → Same (view new) (x >>= line_answer b) n
  ends b x q = record { is = λ t. q.is t ∙ ap (onto (view new)) (by (x t)) }
    where
      by : (r : Res s.State s.State (Result Ending Raised)) → then_do (then_do r (go_on (λ r. pure (ended 0 b.exports r)))) (go_on end_of) ≡ then_do r (go_on (line_answer b))
      by (Gives (Ok NextBody) u) = refl
      by (Gives (Ok (EndsWith p z)) u) = refl
      by (Gives (Err z) u) = refl
      by (Ends u) = refl

  end_same : (r : Ending) → Same (view new) (end_of r) (p.top_answer r)
  end_same NextBody = faults (view new) _
  end_same (EndsWith p v) = pures (view new) v

  pub line_same : (room : ℕ) (t : s.State) → p.run_all tb args room (view old t) ≡ onto (view new) (line room earlier args ss t)
  line_same room t =
      let inner : Agree (view new) (running.calls (m.replies g) room) (e.runs tb args room) = calls_same new tb g fits.alike room in
      let b : source.Body = line_body earlier ss in
      let body : Same (view new) (eval_body (running.calls (m.replies g) room) g b (line_frame b) >>= (λ r. pure (ended 0 b.exports r))) (e.exec tb args (e.runs tb args room) (p.top_frame fits.top) (e.placed_code fits.top.body) []) =
      subst (λ is. Same (view new) (eval_body (running.calls (m.replies g) room) g b (line_frame b) >>= (λ r. pure (ended 0 b.exports r))) (e.exec tb args (e.runs tb args room) (p.top_frame fits.top) is [])) (sym fits.fits.code_is)
      (body_same new tb fits.top.here fits.fits.uses g (line_frame b) (running.calls (m.replies g) room) (e.runs tb args room) (shared new tb g fits.alike (running.calls (m.replies g) room) (e.runs tb args room) inner fits.top.here (line_frame b) fits.fits.linked fits.fits.placed) b.exports fits.fits.count b.header b.statements b.inside fits.fits.inside fits.fits.header fits.fits.statements) in
      ap (λ x. p.run_top tb args room x (view old t)) fits.top_is
      ∙ (ap (λ u. c.stepped (e.exec tb args (e.runs tb args room) (p.top_frame fits.top) (e.placed_code fits.top.body) [] >>= p.top_answer) u) (begun_as t)
      ∙ (steps new tb g fits.alike (running.calls (m.replies g) room) (e.runs tb args room) inner (ends b (eval_body (running.calls (m.replies g) room) g b (line_frame b)) (binds (view new) body end_same))).is (l.begun earlier t))
