use Rattle.std.proofs.Common.{◌≡◌, map, drop}
use Rattle.bqn_syntax.specs.blocks.Leads.{patterns_lead}
use Rattle.bqn_syntax.specs.grammar.Trees.{pattern_of, patterns}
use Rattle.bqn_compile.proofs.leads.+pattern_lead.Given as goal

abbrev pub invariant-patterns-loop-q : goal.invariant-patterns-loop-q
invariant-patterns-loop-q l = patterns_lead (patterns (map pattern_of (drop l.q-index l.all))) ≡ patterns_lead (patterns (map pattern_of l.all))
