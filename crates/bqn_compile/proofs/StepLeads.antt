-- The lead of steps: in the text they stand from the last to the first.
use Rattle.std.proofs.Common.{◌≡◌, ℕ, ◌+◌, ◌<◌, ◌++◌, List, [], ◌∷◌, length, map, reverse, drop, get_or, Option, Some, None, refl, sym, ap, ◌∙◌}
use Rattle.std.proofs.lemmas.List.{reverse-append}
use Rattle.bqn_base.specs.declared.place.Place.{Place}
use Rattle.bqn_syntax.specs.declared.tree.Step.{Step as CodeStep}
use Rattle.bqn_syntax.specs.blocks.Leads.{or_next, step_lead, steps_lead}
use Rattle.bqn_syntax.specs.grammar.Trees.{steps, step_of}
use Rattle.bqn_compile.proofs.Loops.{drop-next}
use Rattle.bqn_compile.proofs.Placings.{next-next, next-none}

-- the first lead of steps in the order of the text
abbrev pub first_lead : List CodeStep → Option Place
first_lead [] = None
first_lead (s ∷ ss) = or_next (step_lead (step_of s)) (first_lead ss)

first-append : (xs ys : List CodeStep) → first_lead (xs ++ ys) ≡ or_next (first_lead xs) (first_lead ys)
first-append [] ys = refl
first-append (x ∷ xs) ys = ap (or_next (step_lead (step_of x))) (first-append xs ys) ∙ sym (next-next (step_lead (step_of x)) (first_lead xs) (first_lead ys))

pub first-backward : (ss : List CodeStep) → first_lead (reverse ss) ≡ steps_lead (steps (map step_of ss))
first-backward [] = refl
first-backward (s ∷ ss) =
    ap first_lead (reverse-append (s ∷ []) ss)
    ∙ first-append (reverse ss) (s ∷ [])
    ∙ (λ i. or_next (first-backward ss i) (next-none (step_lead (step_of s)) i))

-- one step further
first-next : (xs : List CodeStep) (n : ℕ) (s : CodeStep) → n < length xs → s ≡ get_or xs n s → first_lead (drop n xs) ≡ or_next (step_lead (step_of s)) (first_lead (drop (n + 1) xs))
first-next xs n s inside is = ap first_lead (drop-next xs n s inside is)

pub lead-found : (xs : List CodeStep) (n : ℕ) (s : CodeStep) (p : Place) → n < length xs → s ≡ get_or xs n s → Some p ≡ step_lead (step_of s) → Some p ≡ first_lead (drop n xs)
lead-found xs n s p inside is e = ap (λ (q : Option Place). or_next q (first_lead (drop (n + 1) xs))) e ∙ sym (first-next xs n s inside is)

pub lead-after : (xs : List CodeStep) (n m : ℕ) (s : CodeStep) → n < length xs → s ≡ get_or xs n s → None ≡ step_lead (step_of s) → m ≡ n + 1 → first_lead (drop m xs) ≡ first_lead (drop n xs)
lead-after xs n m s inside is e q =
    ap (λ (k : ℕ). first_lead (drop k xs)) q
    ∙ ap (λ (o : Option Place). or_next o (first_lead (drop (n + 1) xs))) e
    ∙ sym (first-next xs n s inside is)
