-- The field of row i is stored behind them.
use Rattle.std.proofs.Common.{◌≡◌, ℕ, ◌+◌, ◌-◌, ◌*◌, length, take, drop, ap, arith}
use Rattle.lists.specs.Joined.{concat_from}
use Rattle.lists.proofs.Joined.{concat_from_more}
use Rattle.lists.proofs.Stores.{stored_none, stored_more}
use Rattle.record_format.specs.Layout.{row_fields_at}
use Rattle.record_format.specs.Record.{row_field}
use Rattle.record_format.proofs.Fields.{length_row_fields}
use Rattle.shape.specs.Rules.{row_of}
use Rattle.record.proofs.writer.put_rows.Goals as goal

pub loop-i-init : goal.loop-i-init
unfolding concat_from
loop-i-init c = stored_none

pub loop-i-preserved : goal.loop-i-preserved
loop-i-preserved c =
    let a = c.args in
    let i = c.loop-i.i in
    let n = a.columns in
    let readings = a.readings.now in
    let row_is : take (i * n + n - i * n) (drop (i * n) readings) ≡ row_of n readings i =
    ap (λ (k : ℕ). take k (drop (i * n) readings)) (omega arith) in
    let next : c.row_at.result ≡ row_fields_at + length (concat_from (row_field n readings) 0 i) =
    omega (
      arith,
      c.row_at.ensures,
      length_row_fields n readings i a.rows (omega arith) (omega arith),
    ) in
    rw (concat_from_more (row_field n readings) i)
    (stored_more c.loop-i.invariant c.row_at.result (row_field n readings i) next
    (rw row_is at c.put_field.ensures))
