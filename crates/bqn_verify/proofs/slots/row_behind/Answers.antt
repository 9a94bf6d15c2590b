use Rattle.std.proofs.Common.{◌∙◌, arith}
use Rattle.bqn_verify.proofs.Finding.{from_start}
use Rattle.bqn_verify.proofs.slots.row_behind.Goals as goal

pub returns : goal.returns
returns c = c.row_from-2.ensures ∙ from_start c.args.blocks.now c.args.start c.args.number c.requires (omega (arith, c.if-start-number.false))
