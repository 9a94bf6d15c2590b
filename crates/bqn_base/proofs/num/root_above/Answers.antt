use Rattle.std.proofs.Common.{arith}
use Rattle.std.proofs.lemmas.Int.{ints}
use Rattle.bqn_base.proofs.Degrees.{root-found}
use Rattle.bqn_base.proofs.num.root_above.Goals as goal

pub returns-then-pow-x : goal.returns-then-pow-x
returns-then-pow-x c =
    let small = c.floor_root-floor.ensures.small in
    root-found c.args.w c.args.x _ _ c.floor_root-floor.result c.pow.result c.pow.ensures c.requires.degree c.requires.number (omega (arith, ints)) (omega (arith, ints)) (omega (arith, ints))
