-- The last of the units is the first that is read.
use Rattle.std.proofs.Common.{◌≡◌, false, List, [], ◌∷◌, ◌++◌, length, refl, ◌∙◌, arith}
use Rattle.std.specs.Prelude.{◌==◌}
use Rattle.bqn_syntax.specs.grammar.Units as units
use Rattle.bqn_parse.specs.declared.unit.Unit.{Unit}
use Rattle.bqn_parse.specs.Leftward.{is_end}
use Rattle.bqn_parse.specs.Views.{backward, backward_onto, unit_shown}

backward_onto-snoc : (us : List Unit) (u : Unit) (so : List units.Unit') → backward_onto (us ++ u ∷ []) so ≡ unit_shown u ∷ backward_onto us so
backward_onto-snoc [] u so = refl
backward_onto-snoc (v ∷ us) u so = backward_onto-snoc us u (unit_shown v ∷ so)

pub backward-snoc : (us : List Unit) (u : Unit) → backward (us ++ u ∷ []) ≡ unit_shown u ∷ backward us
backward-snoc us u = backward_onto-snoc us u []

pub ruleset unit_laws = (backward-snoc)

onto-some : (us : List Unit) (u : units.Unit') (so : List units.Unit') → false ≡ is_end (backward_onto us (u ∷ so))
onto-some [] u so = refl
onto-some (v ∷ us) u so = onto-some us (unit_shown v) (u ∷ so)

pub is_end-empty : (us : List Unit) → (length us == 0) ≡ is_end (backward us)
is_end-empty [] = refl
is_end-empty (u ∷ us) =
    let some : (length (u ∷ us) == 0) ≡ false = grind arith in
    some ∙ onto-some us (unit_shown u) []

pub ruleset end_laws = (is_end-empty)
