-- What units that are read leftward stand for.
use Rattle.std.specs.Prelude.{ℕ, ◌+◌, Bool, true, false, List, [], ◌∷◌, length, Option, Some, None}
use Rattle.bqn_syntax.specs.declared.tree.Arrow.TheVariants as arrow
use Rattle.bqn_syntax.specs.grammar.Expressions.{steps_of}
use Rattle.bqn_syntax.specs.grammar.Trees.{Step, Steps, and_steps, steps}
use Rattle.bqn_syntax.specs.grammar.Units.{Unit', Arrow'}
use Rattle.bqn_parse.specs.declared.reading.value_steps.Left.{Left}
use Rattle.bqn_parse.specs.declared.reading.value_steps.Left.TheVariants as left
use Rattle.bqn_parse.specs.declared.unit.Unit.{Unit as CodeUnit}
use Rattle.bqn_parse.specs.Views.{unit_shown}

-- with no next unit there is none
abbrev pub ahead : Option CodeUnit → List Unit' → List Unit'
ahead None us = []
ahead (Some u) us = unit_shown u ∷ us

-- after no next unit none is left
abbrev pub rest_of : Option CodeUnit → List Unit' → List Unit'
rest_of None us = []
rest_of (Some u) us = us

-- these steps, and then the others
abbrev pub onto_steps : List Step → Steps → Steps
onto_steps [] others = others
onto_steps (s ∷ all) others = and_steps s (onto_steps all others)

abbrev pub joined : List Step → Option Steps → Option Steps
joined all None = None
joined all (Some others) = Some (onto_steps all others)

-- the steps, where these units are left and this stood left of the value
abbrev pub left_shown : Left → List Step → List Unit' → Option Steps
left_shown left.More all us = joined all (steps_of us)
left_shown left.End all us = Some (steps all)
left_shown left.Wrong all us = None

-- so many units are left, and a step before them
abbrev pub left_of : Left → List Unit' → ℕ
left_of left.More us = length us + 1
left_of _ us = 0

abbrev pub is_export : Unit' → Bool
is_export (Arrow' arrow.Export) = true
is_export _ = false

abbrev pub is_end : List Unit' → Bool
is_end [] = true
is_end (u ∷ us) = false
