-- The first step of a value without a last part, by its kind.
use Rattle.std.proofs.Common.{◌≡◌, List, [], ◌∷◌, map, length, Option, Result, Ok, Err, OnOk, refl, sym, ap, ◌∙◌, arith}
use Rattle.bqn_syntax.specs.declared.token.Token.{Token}
use Rattle.bqn_syntax.specs.declared.pattern.Pattern.{Pattern}
use Rattle.bqn_syntax.specs.declared.tree.Arrow.{Arrow}
use Rattle.bqn_syntax.specs.declared.tree.Derived.{Derived}
use Rattle.bqn_syntax.specs.declared.tree.Part.{Part}
use Rattle.bqn_syntax.specs.declared.tree.Step.{Step as CodeStep}
use Rattle.bqn_syntax.specs.declared.tree.Step.TheVariants as step
use Rattle.bqn_syntax.specs.grammar.TreeEquations.{step-Apply, step-Assign, step-Modify}
use Rattle.bqn_syntax.specs.grammar.Trees.{Steps, and_steps, Step, Modify, Value, none, steps, step_of, derived_of}
use Rattle.bqn_syntax.specs.scope.Order.{How, Changes, expr_order, steps_order, derived_order, leaf_order}
use Rattle.bqn_scope.specs.Unstarted.{unstarted_order}

pub unstarted-is : (all : Steps) (k : List (How × Token)) → expr_order (Value none all) k ≡ unstarted_order all k
unfolding unstarted_order
unstarted-is all k = refl

pub unstarted-none : (all : List CodeStep) (k : List (How × Token)) → length all ≡ 0 → k ≡ unstarted_order (steps (map step_of all)) k
unfolding unstarted_order
unstarted-none [] k e = refl
unstarted-none (s ∷ ss) k e = absurd (omega arith)

first-is : (all rest : List CodeStep) (first : CodeStep) (s : Step) (k : List (How × Token)) → all ≡ first ∷ rest → step_of first ≡ s → unstarted_order (steps (map step_of all)) k ≡ unstarted_order (and_steps s (steps (map step_of rest))) k
first-is all rest first s k e f = ap (λ (xs : List CodeStep). unstarted_order (steps (map step_of xs)) k) e ∙ ap (λ (x : Step). unstarted_order (and_steps x (steps (map step_of rest))) k) f

steps-first : (all rest : List CodeStep) (first : CodeStep) (s : Step) (k : List (How × Token)) → all ≡ first ∷ rest → step_of first ≡ s → steps_order (steps (map step_of all)) k ≡ steps_order (and_steps s (steps (map step_of rest))) k
steps-first all rest first s k e f = ap (λ (xs : List CodeStep). steps_order (steps (map step_of xs)) k) e ∙ ap (λ (x : Step). steps_order (and_steps x (steps (map step_of rest))) k) f

pub unstarted-Modify : (all rest : List CodeStep) (first : CodeStep) (t : Token) (f : Derived) (k : List (How × Token)) → all ≡ first ∷ rest → first ≡ step.Modify t f → leaf_order Changes t.kind t (derived_order (derived_of f) (steps_order (steps (map step_of rest)) k)) ≡ unstarted_order (steps (map step_of all)) k
unfolding unstarted_order
unstarted-Modify all rest first t f k e is = sym (first-is all rest first (Modify t (derived_of f)) k e (ap step_of is ∙ step-Modify t f))

pub unstarted-Apply : (all rest : List CodeStep) (first : CodeStep) (f : Derived) (left : Option Part) (k : List (How × Token)) → all ≡ first ∷ rest → first ≡ step.Apply f left → steps_order (steps (map step_of all)) k ≡ unstarted_order (steps (map step_of all)) k
unfolding unstarted_order
unstarted-Apply all rest first f left k e is = steps-first all rest first _ k e (ap step_of is ∙ step-Apply f left) ∙ sym (first-is all rest first _ k e (ap step_of is ∙ step-Apply f left))

pub unstarted-Assign : (all rest : List CodeStep) (first : CodeStep) (q : Pattern) (a : Arrow) (k : List (How × Token)) → all ≡ first ∷ rest → first ≡ step.Assign q a → steps_order (steps (map step_of all)) k ≡ unstarted_order (steps (map step_of all)) k
unfolding unstarted_order
unstarted-Assign all rest first q a k e is = steps-first all rest first _ k e (ap step_of is ∙ step-Assign q a) ∙ sym (first-is all rest first _ k e (ap step_of is ∙ step-Assign q a))

pub ruleset start_laws = (unstarted-is, unstarted-none)

pub on-ok : {T E A : Type 0} (r : Result T E) (x y z : A) → OnOk r (x ≡ y) → y ≡ z → OnOk r (x ≡ z)
on-ok (Ok v) x y z h e = h ∙ e
on-ok (Err r) x y z h e = tt
