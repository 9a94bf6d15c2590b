use Rattle.std.proofs.Common.{◌∙◌, sym, arith}
use Rattle.bqn_token.specs.Singles.{primitives}
use Rattle.bqn_token.proofs.Singles.{position-between}
use Rattle.bqn_token.proofs.single.primitive_code.Goals as goal

pub returns-in-0-to-127 : goal.returns-in-0-to-127
returns-in-0-to-127 c = c.ascii_code.ensures ∙ sym (position-between 0 128 c.args.c (omega arith) (omega arith) primitives)

pub returns-in-128-to-8703 : goal.returns-in-128-to-8703
returns-in-128-to-8703 c = c.early_code.ensures ∙ sym (position-between 128 8704 c.args.c (omega arith) (omega arith) primitives)

pub returns-in-8704-to-8959 : goal.returns-in-8704-to-8959
returns-in-8704-to-8959 c = c.operator_code.ensures ∙ sym (position-between 8704 8960 c.args.c (omega arith) (omega arith) primitives)

pub returns-in_default : goal.returns-in_default
returns-in_default c = c.late_code.ensures ∙ sym (position-between 8960 0x110000 c.args.c (omega arith) (omega arith) primitives)
