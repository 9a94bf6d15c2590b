use Rattle.std.proofs.Common.{◌≤◌}
use Rattle.bqn_io.proofs.fake.FakeReaderRead.read.Given as goal

abbrev pub invariant-loop-byte : goal.invariant-loop-byte
invariant-loop-byte l = l.count ≤ l.byte-index
