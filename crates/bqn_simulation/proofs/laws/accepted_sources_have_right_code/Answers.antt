use Rattle.bqn_simulation.proofs.Accepted.{accepted_code}
use Rattle.bqn_simulation.proofs.laws.accepted_sources_have_right_code.Goals as goal

pub returns : goal.returns
returns c = accepted_code
