-- At the end each place has its number, and so the row is the numbers.
use Rattle.std.proofs.Common.{length, sym, ◌∙◌, arith, ext_get_or}
use Rattle.record_format.specs.Fields.{numbers_at}
use Rattle.record_format.proofs.FieldRead.{length-numbers_at, get_or-numbers_at}
use Rattle.record.proofs.reader.stores.store_numbers.Goals as goal

pub returns : goal.returns
returns c =
    let a = c.args in
    let b = a.bytes.now in
    let n = length a.row.now in
    ext_get_or 0 _ (numbers_at b a.at n) (omega (arith, length-numbers_at b a.at n))
    (λ j h. c.loop-k.invariant j (omega arith) ∙ sym (get_or-numbers_at b a.at n j (omega arith)))
