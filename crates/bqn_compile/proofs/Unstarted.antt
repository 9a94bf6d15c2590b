-- A value without a part at its end: a change without a value, or steps behind Nothing.
use Rattle.std.proofs.Common.{◌≡◌, ℕ, List, [], ◌∷◌, Option, map, sym, ap, ◌∙◌}
use Rattle.std.specs.Option.{option_map}
use Rattle.bqn_syntax.specs.declared.token.Token.{Token}
use Rattle.bqn_syntax.specs.declared.tree.Arrow.{Arrow}
use Rattle.bqn_syntax.specs.declared.tree.Arrow.TheVariants as arrow
use Rattle.bqn_syntax.specs.declared.pattern.Pattern.{Pattern as CodePattern}
use Rattle.bqn_syntax.specs.declared.tree.Part.{Part as CodePart}
use Rattle.bqn_syntax.specs.declared.tree.Derived.{Derived as CodeDerived}
use Rattle.bqn_syntax.specs.declared.tree.Step.{Step as CodeStep}
use Rattle.bqn_syntax.specs.declared.tree.Step.TheVariants as step
use Rattle.bqn_syntax.specs.grammar.Trees.{Value, none, Step, Apply, Assign, Modify, Steps, and_steps, maybe_part, steps, step_of, part_of, derived_of, pattern_of}
use Rattle.bqn_syntax.specs.grammar.TreeEquations.{step-Apply, step-Assign, step-Modify}
use Rattle.bqn_syntax.specs.scope.Bodies.{BodyNames}
use Rattle.bqn_code.specs.declared.instr.Instr.{Instr}
use Rattle.bqn_code.specs.declared.instr.Instr.TheVariants as i
use Rattle.bqn_compile.specs.Counting.{in_token}
use Rattle.bqn_compile.specs.Expressions.{Setting}
use Rattle.bqn_compile.specs.Walking.{Walked, push, skip, load_at, store_at, expr_walk, steps_walk, derived_walk}

abbrev steps_seen : List CodeStep → Steps
steps_seen ss = steps (map step_of ss)

-- the first step is of this form
seen-first : (all rest : List CodeStep) (first : CodeStep) (s : Step) → all ≡ first ∷ rest → step_of first ≡ s → steps_seen all ≡ and_steps s (steps_seen rest)
seen-first all rest first s e f = ap steps_seen e ∙ ap (λ (x : Step). and_steps x (steps_seen rest)) f

module _ (g : Setting) (names : List BodyNames) (inside : ℕ) (all rest : List CodeStep) (first : CodeStep) (w : Walked) where
  pub unstarted-Apply : (f : CodeDerived) (left : Option CodePart) → all ≡ first ∷ rest → first ≡ step.Apply f left →
      push i.Nothing (steps_walk g names inside (steps_seen all) w) ≡ expr_walk g names inside (Value none (steps_seen all)) w
  unstarted-Apply f left e is =
      let same : steps_seen all ≡ and_steps (Apply (derived_of f) (maybe_part (option_map part_of left))) (steps_seen rest) = seen-first all rest first (Apply (derived_of f) (maybe_part (option_map part_of left))) e (ap step_of is ∙ step-Apply f left) in
      ap (λ (ss : Steps). push i.Nothing (steps_walk g names inside ss w)) same ∙ sym (ap (λ (ss : Steps). expr_walk g names inside (Value none ss) w) same)

  pub unstarted-Assign : (q : CodePattern) (a : Arrow) → all ≡ first ∷ rest → first ≡ step.Assign q a →
      push i.Nothing (steps_walk g names inside (steps_seen all) w) ≡ expr_walk g names inside (Value none (steps_seen all)) w
  unstarted-Assign q a e is =
      let same : steps_seen all ≡ and_steps (Assign (pattern_of q) a) (steps_seen rest) = seen-first all rest first (Assign (pattern_of q) a) e (ap step_of is ∙ step-Assign q a) in
      ap (λ (ss : Steps). push i.Nothing (steps_walk g names inside ss w)) same ∙ sym (ap (λ (ss : Steps). expr_walk g names inside (Value none ss) w) same)

  -- a change without a value: what is pushed, one after another
  pub unstarted-Modify : (t : Token) (f : CodeDerived) (reading storing : Instr) (behind stored called skipped : Walked) (changed : Walked) → all ≡ first ∷ rest → first ≡ step.Modify t f →
      behind ≡ steps_walk g names inside (steps_seen rest) w → reading ≡ load_at g behind → storing ≡ store_at g arrow.Change behind →
      stored ≡ push storing behind → called ≡ push i.Call1 stored → skipped ≡ skip (in_token t) called → changed ≡ derived_walk g names inside (derived_of f) skipped →
      push reading changed ≡ expr_walk g names inside (Value none (steps_seen all)) w
  unstarted-Modify t f reading storing behind stored called skipped changed e is b r s p q k d =
      (λ j. push (r j) (d j))
      ∙ ap (λ (v : Walked). push (load_at g behind) (derived_walk g names inside (derived_of f) v)) (k ∙ ap (skip (in_token t)) (q ∙ ap (push i.Call1) (p ∙ ap (λ (x : Instr). push x behind) s)))
      ∙ ap (λ (v : Walked). push (load_at g v) (derived_walk g names inside (derived_of f) (skip (in_token t) (push i.Call1 (push (store_at g arrow.Change v) v))))) b
      ∙ sym (ap (λ (ss : Steps). expr_walk g names inside (Value none ss) w) (seen-first all rest first (Modify t (derived_of f)) e (ap step_of is ∙ step-Modify t f)))

pub unstarted-none : (g : Setting) (names : List BodyNames) (inside : ℕ) (all : List CodeStep) (w : Walked) → all ≡ [] → push i.Nothing w ≡ expr_walk g names inside (Value none (steps_seen all)) w
unstarted-none g names inside all w e = ap (λ (ss : List CodeStep). expr_walk g names inside (Value none (steps_seen ss)) w) (sym e)
