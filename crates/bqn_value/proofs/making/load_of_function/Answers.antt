use Rattle.std.proofs.Common.{◌+◌, subst, sym, length, arith, ap}
use Rattle.std.proofs.lemmas.List.{length-map}
use Rattle.bqn_value.specs.declared.value.Fun.{Fun}
use Rattle.bqn_value.specs.Meaning.{plain, plain_fun, LoadOf}
use Rattle.bqn_value.proofs.Within.{above}
use Rattle.bqn_value.proofs.making.load_of_function.Goals as goal

pub returns-else-list-eq0 : goal.returns-else-list-eq0
returns-else-list-eq0 c = subst (λ (f : Fun). LoadOf (record { weight = 1 + c.load-l-in-Block.result.weight; height = 1 + c.load-l-in-Block.result.height }) (plain_fun f)) (sym c.in-Block.is) (above c.in-Block.block c.in-Block.env c.in-Block.parts c.load-l-in-Block.result c.load-l-in-Block.ensures (omega (arith, ap length c.list.ensures, length-map c.list.result.now plain)))
