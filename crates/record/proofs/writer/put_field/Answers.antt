-- The tag, the length and the numbers are stored one behind the other.
use Rattle.std.proofs.Common.{◌∷◌, length, arith, add-one}
use Rattle.lists.proofs.Stores.{Stored, stored, stored_more}
use Rattle.record_format.specs.Layout.{body_of, numbers_length}
use Rattle.record_format.specs.Fields.{tag_byte, number, numbers}
use Rattle.record_format.proofs.Fields.{length-number, length-numbers, field_is}
use Rattle.record.proofs.writer.put_field.Goals as goal

pub returns : goal.returns
returns c =
    let a = c.args in
    let body = numbers a.values.now in
    let n = numbers_length (length a.values.now) in
    let head : Stored a.bytes.now a.at (tag_byte a.tag ∷ number n) c.put_number.new.bytes =
    stored (rw (add-one a.at, c.byte.ensures) at c.put_number.ensures) in
    let whole = stored_more head (body_of a.at) body
    (omega (arith, length-number n)) c.put_numbers.ensures in
    rw (field_is a.tag body n (length-numbers a.values.now)) at whole.is
