use Rattle.std.proofs.Common.{◌≤◌, length, arith}
use Rattle.std.proofs.lemmas.Grind.{common_steps}
use Rattle.bqn_value.proofs.Functions.{function-made}
use Rattle.bqn_value.proofs.making.block_function.Goals as goal

pub returns-in-Ok-held : goal.returns-in-Ok-held
returns-in-Ok-held c =
    let n : 1 ≤ length c.args.parts.items = grind (arith, common_steps) in
    function-made c.args.block c.args.env c.args.parts.items c.deref.result.now c.in-Ok-held.parts c.in-Ok.load c.deref.ensures.value c.in-Ok-held.ensures n c.requires.few
    c.requires.parts c.in-Ok.ensures
