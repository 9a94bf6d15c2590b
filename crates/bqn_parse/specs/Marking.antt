-- What the marks of statements and bodies show.
use Rattle.std.specs.Prelude.{ℕ, nat_le, if◌then◌else◌, None}
use Rattle.std.specs.Option.{option_map}
use Rattle.bqn_syntax.specs.grammar.Trees.{Header, Skip}
use Rattle.bqn_syntax.specs.grammar.Classes as classes
use Rattle.bqn_parse.specs.declared.marks.Seen.{Seen}

abbrev pub seen_shown : Seen → classes.Seen
seen_shown s = record { args = s.args; one = s.one; one_self = s.one_self; two = s.two }

abbrev pub at_most_one : ℕ → ℕ
at_most_one n = if nat_le 1 n then 1 else 0

-- what tells the class of a block as well: the name and the argument of a header, and whether a statement stands after the
-- last predicate
abbrev pub brief_header : Header → Header
brief_header h = record { left = None; left_operand = None; own = h.own; right_operand = None; right = option_map (λ q. Skip h.own.place) h.right }

abbrev pub brief : classes.Marks → classes.Marks
brief m = record { header = option_map brief_header m.header; predicate = m.predicate; statements = at_most_one m.statements; seen = m.seen }
