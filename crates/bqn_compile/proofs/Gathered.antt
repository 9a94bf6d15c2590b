-- Gathering the steps of a value, which begins with the last one.
use Rattle.std.proofs.Common.{◌≡◌, ◌++◌, List, [], ◌∷◌, map, Result, Ok, Err, refl, ap, ◌∙◌}
use Rattle.std.specs.List.{push}
use Rattle.bqn_base.specs.declared.refusal.Refusal.{Refusal}
use Rattle.bqn_syntax.specs.declared.tree.Step.{Step as CodeStep}
use Rattle.bqn_syntax.specs.grammar.Trees.{steps as plain_steps, step_of}
use Rattle.bqn_syntax.specs.scope.Scope.{Use}
use Rattle.bqn_compile.specs.Gathering.{Most, Gathered, Gathers, done, and_on, step, steps}

and-done : (r : Result Gathered Refusal) → r ≡ and_on r done
and-done (Ok g) = refl
and-done (Err e) = refl

and-on-assoc : (r : Result Gathered Refusal) (f h : Gathers) → and_on (and_on r f) h ≡ and_on r (λ g. and_on (f g) h)
and-on-assoc (Ok g) f h = refl
and-on-assoc (Err e) f h = refl

module _ (m : Most) (uses : List Use) (s : CodeStep) (g : Gathered) where
  last-first : (before : List CodeStep) → steps m uses (plain_steps (map step_of (before ++ s ∷ []))) g ≡ and_on (step m uses (step_of s) g) (steps m uses (plain_steps (map step_of before)))
  last-first [] = and-done (step m uses (step_of s) g)
  last-first (b ∷ before) =
      ap (λ (r : Result Gathered Refusal). and_on r (step m uses (step_of b))) (last-first before)
      ∙ and-on-assoc (step m uses (step_of s) g) (steps m uses (plain_steps (map step_of before))) (step m uses (step_of b))

  -- behind the last step
  pub steps-past : (h : Gathered) (rest before : List CodeStep) → rest ≡ push before s → step m uses (step_of s) g ≡ Ok h → steps m uses (plain_steps (map step_of rest)) g ≡ steps m uses (plain_steps (map step_of before)) h
  steps-past h rest before e gives =
      ap (λ (all : List CodeStep). steps m uses (plain_steps (map step_of all)) g) e
      ∙ last-first before
      ∙ ap (λ (r : Result Gathered Refusal). and_on r (steps m uses (plain_steps (map step_of before)))) gives

  -- the last step is refused
  pub steps-stop : (r : Refusal) (rest before : List CodeStep) → rest ≡ push before s → step m uses (step_of s) g ≡ Err r → steps m uses (plain_steps (map step_of rest)) g ≡ Err r
  steps-stop r rest before e refused =
      ap (λ (all : List CodeStep). steps m uses (plain_steps (map step_of all)) g) e
      ∙ last-first before
      ∙ ap (λ (x : Result Gathered Refusal). and_on x (steps m uses (plain_steps (map step_of before)))) refused

pub ruleset step_laws = (steps-past, steps-stop)
