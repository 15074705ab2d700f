-- One number more is stored behind them.
use Rattle.std.proofs.Common.{◌≡◌, ◌+◌, length, take, get_or, arith, length-take}
use Rattle.lists.proofs.Stores.{stored_none, stored_more}
use Rattle.record_format.specs.Layout.{numbers_length}
use Rattle.record_format.specs.Fields.{number, numbers}
use Rattle.record_format.proofs.Fields.{length-numbers, numbers_last}
use Rattle.record.proofs.writer.put_numbers.Goals as goal

pub loop-k-init : goal.loop-k-init
unfolding numbers
loop-k-init c = stored_none

pub loop-k-preserved : goal.loop-k-preserved
loop-k-preserved c =
    let l = c.loop-k in
    let a = c.args in
    let values = a.values.now in
    let next : a.at + numbers_length l.k ≡ a.at + length (numbers (take l.k values)) =
    omega (arith, length-numbers (take l.k values), length-take l.k values) in
    rw (numbers_last values l.k (omega arith))
    (stored_more l.invariant (a.at + numbers_length l.k)
    (number (get_or values l.k 0)) next c.put_number.ensures)
