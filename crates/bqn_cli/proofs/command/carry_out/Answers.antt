-- What the fetch gave is answered, or a fault is shown.
use Rattle.bqn_cli.proofs.Commands.{meets-fetched, meets-failed, meets-wanting}
use Rattle.bqn_cli.proofs.command.carry_out.Goals as goal

pub returns-in-Ok : goal.returns-in-Ok
returns-in-Ok g c =
    rw c.status_after.ensures (meets-fetched g.K.Sink.written g.K.Sink.room g.K.Sink.faults g.F.Files.told g.F.Files.is_steady g.F.Files.faults c.args.task c.args.file.now c.in-Ok.fetched
    c.args.files.now c.fetch.new.self c.args.output.now c.give.new.output c.give.result c.in-Ok.ensures.value c.give.ensures)

pub returns-in-Err-Failed : goal.returns-in-Err-Failed
returns-in-Err-Failed g c =
    meets-failed g.K.Sink.written g.K.Sink.room g.K.Sink.faults g.F.Files.told g.F.Files.is_steady g.F.Files.faults c.args.task c.args.file.now c.args.files.now c.fetch.new.self c.args.output.now
    (rw c.in-Err-Failed.field-0-is at c.in-Err-Failed.ensures.rose) (rw c.in-Err-Failed.field-0-is at c.in-Err-Failed.ensures.steady)

pub returns-in-Err-Memory : goal.returns-in-Err-Memory
returns-in-Err-Memory g c =
    meets-wanting g.K.Sink.written g.K.Sink.room g.K.Sink.faults g.F.Files.told g.F.Files.is_steady g.F.Files.faults c.args.task c.args.file.now c.args.files.now c.fetch.new.self c.args.output.now
