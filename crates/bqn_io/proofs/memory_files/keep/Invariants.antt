use Rattle.std.proofs.Common.{◌≡◌, map, ◌++◌}
use Rattle.std.specs.Vec.Iter.{into_iter_items}
use Rattle.bqn_io.specs.States.{kept_file}
use Rattle.bqn_io.proofs.memory_files.keep.Given as goal

abbrev pub invariant-loop-name : goal.invariant-loop-name
invariant-loop-name l = map kept_file l.fn.files.items ≡ l.kept.items ++ map kept_file (into_iter_items l.name-iterator)
