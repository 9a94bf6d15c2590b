-- What a body shows of the class of its block, mark by mark.
use Rattle.std.specs.Prelude.{Bool, ◌||◌, if◌then◌else◌, List, Option, None}
use Rattle.std.specs.List.{list_any}
use Rattle.bqn_syntax.specs.declared.tree.Class.{Class}
use Rattle.bqn_syntax.specs.declared.tree.Class.TheVariants as class
use Rattle.bqn_syntax.specs.grammar.Classes.{Marks, has_two, has_one_self, has_one, has_function, is_deferred, class_if}
use Rattle.bqn_headers.specs.declared.class.Mark.{Mark}
use Rattle.bqn_headers.specs.declared.class.Mark.TheVariants as mark

-- a block with such a body and without operands waits for its arguments
abbrev pub is_called : Marks → Bool
is_called m = m.seen.args || has_function m

abbrev pub has : Mark → Marks → Bool
has mark.Two = has_two
has mark.OneSelf = has_one_self
has mark.One = has_one
has mark.Function = has_function
has mark.Called = is_called
has mark.Deferred = is_deferred

abbrev pub mod1_class : List Marks → Option Class
mod1_class ms = if list_any has_function ms then None else class_if (if list_any is_deferred ms then class.Mod1Deferred else class.Mod1) ms

abbrev pub mod2_class : List Marks → Option Class
mod2_class ms =
    if list_any has_one_self ms || list_any has_function ms then None
    else class_if (if list_any is_deferred ms then class.Mod2Deferred else class.Mod2) ms
