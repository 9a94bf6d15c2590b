use Rattle.bqn_meaning.proofs.advancing.Budgets.{go-on}
use Rattle.bqn_meaning.proofs.laws.larger_budgets_go_on.Goals as goal

pub returns : goal.returns
returns c = go-on
