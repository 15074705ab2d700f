-- The numbers before the one at hand are stored.
use Rattle.std.proofs.Common.{take}
use Rattle.lists.proofs.Stores.{Stored}
use Rattle.record_format.specs.Fields.{numbers}
use Rattle.record.proofs.writer.put_numbers.Given as goal

abbrev pub invariant-loop-k : goal.invariant-loop-k
invariant-loop-k l = Stored l.initial.bytes l.at (numbers (take l.k l.values)) l.bytes
