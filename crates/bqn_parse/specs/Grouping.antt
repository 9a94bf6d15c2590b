-- What the units so far stand for, while modifiers are bound.
use Rattle.std.specs.Prelude.{List, [], ◌∷◌, map}
use Rattle.bqn_syntax.specs.grammar.Trees.{Part, Use, use_of}
use Rattle.bqn_syntax.specs.grammar.Units as units
use Rattle.bqn_parse.specs.declared.reading.grouping.Binding.{Binding}
use Rattle.bqn_parse.specs.declared.reading.grouping.Binding.TheVariants as binding
use Rattle.bqn_parse.specs.declared.reading.grouping.Grouping.{Grouping}
use Rattle.bqn_parse.specs.declared.draft.Function.{Function}
use Rattle.bqn_parse.specs.declared.draft.Function.TheVariants as function
use Rattle.bqn_parse.specs.Drafts.{draft_of}
use Rattle.bqn_parse.specs.Views.{backward}

-- the part that modifiers stand after
abbrev pub operand_shown : Function → Part
operand_shown (function.Plain x) = draft_of x
operand_shown (function.Modified m) = draft_of m.first

-- the modifiers after it
abbrev pub uses_shown : Function → List Use
uses_shown (function.Plain x) = []
uses_shown (function.Modified m) = map use_of m.uses.items

abbrev pub binding_shown : Binding → units.Binding
binding_shown binding.Free = units.Free
binding_shown (binding.Bound f) = units.Bound (operand_shown f) (uses_shown f)
binding_shown (binding.Wanting w) = units.Wanting (operand_shown w.function) (uses_shown w.function) (draft_of w.modifier)

abbrev pub grouping_shown : Grouping → units.Row
grouping_shown g = units.row (backward g.units.items) (binding_shown g.binding)

-- where the operand that is being read ends, unless its modifier wants another
abbrev pub settled_by : List units.Unit' → units.Binding → units.Row
settled_by us units.Free = units.row us units.Free
settled_by us (units.Bound x uses) = units.row (units.unit_of x uses ∷ us) units.Free
settled_by us (units.Wanting x uses m) = units.row us (units.Wanting x uses m)

abbrev pub settled : units.Row → units.Row
settled so = settled_by so.units so.binding
