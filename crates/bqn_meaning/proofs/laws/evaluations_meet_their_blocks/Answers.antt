use Rattle.bqn_meaning.proofs.BlockNumbers.{evaluations_meet}
use Rattle.bqn_meaning.proofs.laws.evaluations_meet_their_blocks.Goals as goal

pub returns : goal.returns
returns c = evaluations_meet
