-- The room of the buffer is no less than the one in the tests, so the tests are clear there too.
use Rattle.std.proofs.Common.{◌≤◌, length, ◌∙◌, arith}
use Rattle.lists.proofs.Stores.{sets_front}
use Rattle.record_format.specs.Reading.{image_in}
use Rattle.record_format.proofs.Readable.{readable, length_image}
use Rattle.record.proofs.Stages.{headed_read, clear_wider}
use Rattle.record.proofs.reader.passed.Record.store.Goals as goal

pub invariant_of-head : goal.invariant_of-head
invariant_of-head c =
    let s = c.args.self.now in
    record { shape_is = s.shape_is; headed = headed_read s.bytes.now s.room s.tested }

pub store_rows-requires : goal.store_rows-requires
store_rows-requires c =
    let s = c.args.self.now in
    clear_wider s.bytes.now s.room (length c.args.readings.now) c.requires s.tested

pub returns : goal.returns
returns c =
    let s = c.args.self.now in
    let image = image_in s.bytes.now in
    let r = readable s.bytes.now s.room s.tested in
    let fits : length image ≤ length c.args.readings.now =
    omega (arith, length_image s.bytes.now, r.buffer, c.requires) in
    c.store_rows.ensures ∙ sets_front c.args.readings.now image fits
