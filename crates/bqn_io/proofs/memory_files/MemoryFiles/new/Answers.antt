use Rattle.bqn_io.proofs.Shelves.{faults_in-fresh}
use Rattle.bqn_io.proofs.memory_files.MemoryFiles.new.Goals as goal

pub returns-clause-counts : goal.returns-clause-counts
returns-clause-counts c = λ name. rw c.in_ok-files.ensures (faults_in-fresh c.args.files.items name)
