use Rattle.bqn_compile.proofs.Accepted.{accepted_trees}
use Rattle.bqn_compile.proofs.laws.accepted_trees_are_from_sources.Goals as goal

pub returns : goal.returns
returns c = accepted_trees
