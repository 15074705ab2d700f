-- No reading before the one at hand is bad, so that the first bad one is the first from there on.
use Rattle.std.proofs.Common.{◌≡◌, ◌+◌, drop}
use Rattle.lists.specs.First.{first_bad}
use Rattle.cycle.specs.Silence.{is_reading}
use Rattle.record_format.specs.Reading.{cycle_in, row_in}
use Rattle.record.proofs.reader.body.Head.check_readings.Given as goal

abbrev pub invariant-loop-k : goal.invariant-loop-k
invariant-loop-k l =
    let b = l.self.bytes.now in
    let good = is_reading (cycle_in b) in
    first_bad good (row_in b l.i) ≡ l.k + first_bad good (drop l.k (row_in b l.i))
