use Rattle.bqn_grammar.proofs.laws.only_well_trees_are_found.Goals as goal
use Rattle.bqn_grammar.proofs.only.WellTrees.{only_well_trees_are_found}

pub returns : goal.returns
returns c = only_well_trees_are_found
