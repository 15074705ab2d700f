-- What is laid stays within the memory.
use Rattle.std.proofs.Common.{length, ◌≤◌}
use Rattle.test_support.proofs.cases.numbers.Given as goal

abbrev pub invariant-loop-byte : goal.invariant-loop-byte
invariant-loop-byte l = l.count ≤ length l.numbers
