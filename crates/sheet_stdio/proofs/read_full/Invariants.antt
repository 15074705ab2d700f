-- What was read so far stands at the front of the memory.
use Rattle.std.proofs.Common.{◌≤◌, length, take}
use Rattle.std.specs.Io.KnownBytes.{Consumes}
use Rattle.sheet_stdio.proofs.read_full.Given as goal

abbrev pub invariant-loop : goal.invariant-loop
invariant-loop g l = (l.count ≤ length l.bytes) × Consumes (g.R.Read.remaining l.initial.reader)
    (g.R.Read.remaining l.reader) (take l.count l.bytes)
