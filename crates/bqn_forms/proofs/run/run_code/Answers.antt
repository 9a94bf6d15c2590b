-- One instruction more, or the one that ends the run.
use Rattle.std.proofs.Common.{reverse, pos, ◌-◌}
use Rattle.bqn_forms.specs.declared.code.Instr.TheVariants.{Const}
use Rattle.bqn_forms.specs.Execution.{executed}
use Rattle.bqn_forms.proofs.Going.{going-step-at, going-halt-at}
use Rattle.bqn_forms.proofs.run.run_code.Goals as goal

pub instructions-preserved : goal.instructions-preserved
instructions-preserved g c =
    going-step-at g.K.Sink.written g.K.Sink.room g.K.Sink.faults (executed c.args.code.now c.args.steps) c.args.code.now c.instructions.instr-index (Const (pos 0))
    (reverse c.instructions.stack.items) c.instructions.vars.items (reverse c.step.new.stack.items) c.step.new.vars.items (c.args.steps - 1) c.args.out.now c.instructions.out c.step.new.out
    c.instructions-test.true c.instructions.invariant c.in_default.ensures.acts c.in_default.ensures.vars

pub returns-in-Err : goal.returns-in-Err
returns-in-Err g c =
    going-halt-at g.K.Sink.written g.K.Sink.room g.K.Sink.faults (executed c.args.code.now c.args.steps) c.args.code.now c.instructions.instr-index (Const (pos 0))
    (reverse c.instructions.stack.items) c.instructions.vars.items (reverse c.step.new.stack.items) (c.args.steps - 1) c.args.out.now c.instructions.out c.step.new.out c.in-Err.end
    c.requires c.instructions-test.true c.instructions.invariant c.in-Err.ensures.acts
