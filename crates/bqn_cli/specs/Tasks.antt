-- The commands that read a source from a file.
use Rattle.std.specs.Prelude.{ℕ, List}
use Rattle.bqn_cli.specs.declared.words.Task.{Task}
use Rattle.bqn_cli.specs.declared.words.Task.TheVariants.{Run, Check}
use Rattle.bqn_cli.specs.Command as command
use Rattle.bqn_cli.specs.Command.{Command}
use Rattle.bqn_cli.specs.Answer.{Answer, run_answer, check_answer}

abbrev pub task_command : Task → List ℕ → Command
task_command Run file = command.Run file
task_command Check file = command.Check file

-- what a task answers to a source
abbrev pub task_answer : Task → List ℕ → Answer
task_answer Run source = run_answer source
task_answer Check source = check_answer source
