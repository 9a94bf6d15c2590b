-- A usage line that is not written whole is cut at its end.
use Rattle.std.proofs.Common.{◌≡◌, List, ℕ, subst, sym, refl}
use Rattle.bqn_io.specs.Writing.{Breaks}
use Rattle.bqn_cli.specs.Command.{Command}
use Rattle.bqn_cli.specs.Answer.{Answers, usage_answer}
use Rattle.bqn_cli.specs.Headline.{Prefix}
use Rattle.bqn_cli.proofs.Commands.{prefix-breaks}
use Rattle.bqn_cli.proofs.command.command.Goals as goal

pub returns-in-Err-clause-prefix : goal.returns-in-Err-clause-prefix
returns-in-Err-clause-prefix g c =
    let P : Command → Type 0 = λ command. Prefix (Answers command (g.F.Files.told c.args.files.now)) (g.K.Sink.written c.args.output.now) (g.K.Sink.written c.put_line.new.out) in
    let Q : List ℕ → Type 0 = λ bytes. Breaks g.K.Sink.written g.K.Sink.room g.K.Sink.faults c.args.output.now c.put_line.new.out bytes in
    let breaks : Q usage_answer.out = subst Q c.usage_line.ensures c.in-Err.ensures in
    subst P (sym c.in-None.ensures) (prefix-breaks g.K.Sink.written g.K.Sink.room g.K.Sink.faults (λ a. a ≡ usage_answer) usage_answer c.args.output.now c.put_line.new.out refl breaks)
