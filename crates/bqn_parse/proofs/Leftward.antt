-- Units that are read leftward.
use Rattle.std.proofs.Common.{◌≡◌, List, [], ◌∷◌, ◌++◌, map, Option, Some, None, refl, sym, ap, ◌∙◌}
use Rattle.std.proofs.lemmas.List.{map-append}
use Rattle.bqn_syntax.specs.declared.tree.Step.{Step}
use Rattle.bqn_syntax.specs.grammar.Expressions.{more}
use Rattle.bqn_syntax.specs.grammar.Trees as plain
use Rattle.bqn_syntax.specs.grammar.Trees.{Steps, no_steps, and_steps, step_of, steps}
use Rattle.bqn_parse.specs.Leftward.{onto_steps, joined}

-- one more step
pub step_of-snoc : (all more : List Step) (s : Step) (shown : plain.Step) → more ≡ all ++ s ∷ [] → step_of s ≡ shown → map step_of more ≡ map step_of all ++ shown ∷ []
step_of-snoc all more s shown e f = ap (λ (xs : List Step). map step_of xs) e ∙ map-append step_of all (s ∷ []) ∙ ap (λ (t : plain.Step). map step_of all ++ t ∷ []) f

onto_steps-snoc : (all : List plain.Step) (s : plain.Step) (others : Steps) → onto_steps (all ++ s ∷ []) others ≡ onto_steps all (and_steps s others)
onto_steps-snoc [] s others = refl
onto_steps-snoc (t ∷ all) s others = ap (λ (behind : Steps). and_steps t behind) (onto_steps-snoc all s others)

joined-snoc : (all : List plain.Step) (s : plain.Step) (others : Option Steps) → joined (all ++ s ∷ []) others ≡ joined all (more s others)
joined-snoc all s None = refl
joined-snoc all s (Some others) = ap (λ (behind : Steps). Some behind) (onto_steps-snoc all s others)

pub joined-more : (all now : List plain.Step) (s : plain.Step) (others : Option Steps) → now ≡ all ++ s ∷ [] → joined all (more s others) ≡ joined now others
joined-more all now s others e = sym (joined-snoc all s others) ∙ ap (λ (ss : List plain.Step). joined ss others) (sym e)

pub joined-nil : (others : Option Steps) → joined [] others ≡ others
joined-nil None = refl
joined-nil (Some others) = refl

onto_steps-end : (all : List plain.Step) → onto_steps all no_steps ≡ steps all
onto_steps-end [] = refl
onto_steps-end (s ∷ all) = ap (λ (behind : Steps). and_steps s behind) (onto_steps-end all)

pub joined-end : (all : List plain.Step) → joined all (Some no_steps) ≡ Some (steps all)
joined-end all = ap (λ (behind : Steps). Some behind) (onto_steps-end all)

pub ruleset step_laws = (step_of-snoc, joined-more, joined-nil, joined-end)
