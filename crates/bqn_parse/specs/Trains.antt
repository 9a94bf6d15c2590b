-- What a train and its targets stand for while they are read leftward.
use Rattle.std.specs.Prelude.{ℕ, ◌+◌, Bool, true, false, List, [], map, length, reverse, Option, None}
use Rattle.std.specs.Option.{option_map}
use Rattle.bqn_syntax.specs.declared.sort.Tag.{Tag}
use Rattle.bqn_syntax.specs.declared.sort.Tag.TheVariants as tag
use Rattle.bqn_syntax.specs.declared.token.Token.{Token}
use Rattle.bqn_syntax.specs.declared.tree.Arrow.{Arrow}
use Rattle.bqn_syntax.specs.declared.tree.Derived.{Derived as CodeDerived}
use Rattle.bqn_syntax.specs.grammar.Expressions as expressions
use Rattle.bqn_syntax.specs.grammar.Trees.{Expr, Train, Deriveds, deriveds, derived_of}
use Rattle.bqn_syntax.specs.grammar.Units.{Unit'}
use Rattle.bqn_parse.specs.declared.reading.train.Turn.{Turn}
use Rattle.bqn_parse.specs.declared.reading.train.Turn.TheVariants as turn

-- the targets, where one more was found
abbrev pub targets_if : Bool → Tag → List (Token × Arrow) → List Unit' → Option (List (Token × Arrow))
targets_if true r so us = expressions.targets r so us
targets_if false r so us = None

-- the parts, which stand from right to left
abbrev pub parts_shown : List CodeDerived → Deriveds
parts_shown parts = deriveds (map derived_of (reverse parts))

-- the train of these parts, where these units are left and the next part may be any or a function alone
abbrev pub turn_shown : Turn → Bool → Deriveds → List Unit' → Option Expr
turn_shown turn.More any parts us = expressions.train any parts us
turn_shown turn.Aimed any parts us = option_map (λ ts. Train ts parts) (expressions.targets tag.Function [] us)
turn_shown turn.Wrong any parts us = None

-- so many units are left, and a part before them
abbrev pub turn_left : Turn → List Unit' → ℕ
turn_left turn.More us = length us + 1
turn_left _ us = 0
