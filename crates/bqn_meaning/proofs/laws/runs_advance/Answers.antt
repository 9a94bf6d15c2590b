use Rattle.bqn_meaning.proofs.advancing.Budgets.{advance}
use Rattle.bqn_meaning.proofs.laws.runs_advance.Goals as goal

pub returns : goal.returns
returns c = advance
