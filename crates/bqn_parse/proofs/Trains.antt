-- Parts and targets are collected from right to left.
use Rattle.std.proofs.Common.{◌≡◌, List, [], ◌∷◌, ◌++◌, map, reverse, Option, Some, sym, ap, ◌∙◌}
use Rattle.std.specs.Option.{option_and_then}
use Rattle.std.proofs.lemmas.List.{reverse-append}
use Rattle.bqn_syntax.specs.declared.sort.Tag.{Tag}
use Rattle.bqn_syntax.specs.declared.token.Token.{Token}
use Rattle.bqn_syntax.specs.declared.tree.Arrow.{Arrow}
use Rattle.bqn_syntax.specs.declared.tree.Derived.{Derived}
use Rattle.bqn_syntax.specs.grammar.Expressions.{single, targets}
use Rattle.bqn_syntax.specs.grammar.Trees.{and_deriveds, deriveds, derived_of}
use Rattle.bqn_syntax.specs.grammar.Sorts.{named}
use Rattle.bqn_syntax.specs.grammar.Units.{Unit', Arrow'}
use Rattle.bqn_parse.specs.Trains.{parts_shown}

pub found-snoc : (found : List (Token × Arrow)) (target : Token × Arrow) → reverse (found ++ target ∷ []) ≡ target ∷ reverse found
found-snoc found target = reverse-append found (target ∷ [])

pub parts_shown-snoc : (parts : List Derived) (part : Derived) → parts_shown (parts ++ part ∷ []) ≡ and_deriveds (derived_of part) (parts_shown parts)
parts_shown-snoc parts part = ap (λ (all : List Derived). deriveds (map derived_of all)) (reverse-append parts (part ∷ []))

pub ruleset train_laws = (found-snoc, parts_shown-snoc)

-- a target before an arrow
pub target-before : (r : Tag) (so more : List (Token × Arrow)) (t : Token) (a : Arrow) (u : Unit') (us all : List Unit') → all ≡ u ∷ us → Some t ≡ option_and_then (named r) (single u) → more ≡ (t, a) ∷ so → targets r so (Arrow' a ∷ all) ≡ targets r more us
target-before r so more t a u us all at_hand name found =
    ap (λ (vs : List Unit'). targets r so (Arrow' a ∷ vs)) at_hand
    ∙ ap (λ (o : Option Token). option_and_then (λ x. targets r ((x, a) ∷ so) us) o) (sym name)
    ∙ ap (λ (ts : List (Token × Arrow)). targets r ts us) (sym found)
