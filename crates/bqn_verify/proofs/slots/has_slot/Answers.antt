use Rattle.std.proofs.Common.{◌∙◌, ap, List, Option, ℕ}
use Rattle.bqn_code.specs.Conditions.{is_below}
use Rattle.bqn_code.specs.declared.code.Block.{Block}
use Rattle.bqn_code.specs.Plain.{code_of}
use Rattle.bqn_verify.specs.Rows.{rows_of, up_in}
use Rattle.bqn_verify.proofs.Rows.{below_up}
use Rattle.bqn_verify.proofs.slots.has_slot.Goals as goal

pub returns : goal.returns
returns c =
    c.is_below.ensures
    ∙ (ap (λ (o : Option ℕ). is_below c.args.slot o) (c.slots_up.ensures ∙ ap (λ (bs : List Block). up_in (rows_of 0 bs) c.args.up c.args.number) c.list.ensures)
    ∙ below_up (code_of c.args.code.now) c.args.up c.args.number c.args.slot)
