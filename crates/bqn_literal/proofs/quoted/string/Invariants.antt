use Rattle.std.proofs.Common.{◌≡◌, ◌++◌, drop}
use Rattle.bqn_base.specs.Literal.{unquoted}
use Rattle.bqn_literal.proofs.Quotes.{unquoted_behind}
use Rattle.bqn_literal.proofs.quoted.string.Given as goal

abbrev pub invariant-scan : goal.invariant-scan
invariant-scan l = l.chars.items ++ unquoted_behind l.paired (drop l.c-index l.inside) ≡ unquoted l.inside
