-- The round trip, from the contracts of the writer and the reader alone: what was written reads
-- back, and what was read, with its mask stated, is written again byte by byte.
-- SPECIFICATION, "Guarantees".
use Rattle.std.proofs.Common.{ℕ, ◌≤◌, ◌<◌, ◌≡◌, ap, sym, ◌∙◌, List, length, take, Result, Ok, Err}
use Rattle.lists.specs.Front.{at_front}
use Rattle.lists.proofs.Stores.{front_taken}
use Rattle.refusal.specs.declared.Refusal.{Refusal}
use Rattle.refusal.specs.Outcome.{outcome, after}
use Rattle.refusal.specs.Outcome.Outcome.{accepted, refused}
use Rattle.refusal.proofs.Outcome.{not_refused, accepted_clear, accepted_value, after-refused}
use Rattle.refusal.proofs.Outcome.{after-accepted}
use Rattle.shape.specs.declared.Shape.{Shape}
use Rattle.shape.specs.Rules.{area}
use Rattle.record_format.specs.Fields.{AreBytes}
use Rattle.record_format.specs.Record.{record_bytes, record_length, write_rules, write_due}
use Rattle.record_format.specs.Reading.{stated_mask_length, shape_in, image_in, read_rules}
use Rattle.record_format.specs.Reading.{read_due}
use Rattle.record_format.proofs.Fields.{length_record}
use Rattle.record_format.proofs.Writable.{Writable, writable}
use Rattle.record_format.proofs.Readable.{readable, length_image}
use Rattle.record_format.proofs.Written.{image_back, written_read, written_short}
use Rattle.record_format.proofs.Reread.{bytes_back, read_written}
use Rattle.record.specs.Calls.{ReadCall, WriteCall}

-- an answer by its accepted outcome
outcome-accepted : {A : Type 0} (r : Result A Refusal) (v : A) → outcome r ≡ accepted v → r ≡ Ok v
outcome-accepted (Ok w) v e = cc
outcome-accepted (Err f) v e = not_refused (sym e)

-- the writer has written: its tests were clear, and its bytes are the record's
record HasWritten (s : Shape) (readings bytes : List ℕ) (n : ℕ) (bytes' : List ℕ) : Type 0 where
  tests : Writable s readings (length bytes)
  bytes_are : take n bytes' ≡ record_bytes s readings

-- a writer that answers with a length has written
has_written : {s : Shape} {readings bytes : List ℕ} {n : ℕ} {bytes' : List ℕ}
    → WriteCall s readings bytes (Ok n) bytes'
    → HasWritten s readings bytes n bytes'
unfolding write_due
has_written {s} {readings} {bytes} {n} {bytes'} w =
    let clear =
    accepted_clear (record_length s) (write_rules s readings (length bytes)) n (sym w.answer) in
    let t = writable s readings (length bytes) clear in
    let n-is = accepted_value (record_length s) (write_rules s readings (length bytes)) n
    (sym w.answer) in
    let all = w.memory ∙ after-accepted _ _ (sym w.answer) in
    record {
      tests = t;
      bytes_are = ap (take n) all ∙ front_taken bytes (record_bytes s readings) n
          (length_record s readings t.input ∙ sym n-is);
    }

-- The writer returned n, and a reader is given exactly the first n bytes.
module _ {s : Shape} {readings bytes : List ℕ} {n : ℕ} {bytes' : List ℕ}
    (w : WriteCall s readings bytes (Ok n) bytes') (buffer : List ℕ) {buffer' : List ℕ}
    (memory : buffer' ≡ after (read_due (take n bytes') (length buffer))
    (λ s. at_front (image_in (take n bytes')) buffer) buffer) where
  -- with room for the readings the answer is the same five numbers, and the buffer begins with the
  -- readings that were written; the rest of it is as it was
  pub call_reads_back : area s ≤ length buffer →
      (read_due (take n bytes') (length buffer) ≡ accepted s) × (buffer' ≡ at_front readings buffer)
  call_reads_back room =
      let h = has_written w in
      let t = h.tests in
      let call = rw (← h.bytes_are) at
      (written_read s readings t.input t.tests t.good (length buffer) room) in
      let image = rw (← h.bytes_are) at (image_back s readings t.input) in
      (call, memory ∙ after-accepted _ _ call ∙ rw image)

  -- with less room it is 7 at 0, and the buffer is as it was
  pub call_reads_back_short : length buffer < area s
      → (read_due (take n bytes') (length buffer) ≡ refused 7 0) × (buffer' ≡ buffer)
  call_reads_back_short room =
      let h = has_written w in
      let t = h.tests in
      let call = rw (← h.bytes_are) at
      (written_short s readings t.input t.tests t.good (length buffer) room) in
      (call, memory ∙ after-refused _ _ call)

-- The reader accepted b, whose mask field states the length 4, and a writer is given what was read,
-- with room for as many bytes as b has: it answers with that number, and the bytes begin with b;
-- the rest of them is as it was.
module _ {b buffer buffer' : List ℕ} {s : Shape} (bytes : List ℕ) {bytes' : List ℕ} where
  pub call_writes_back : AreBytes b → ReadCall b buffer (Ok s) buffer' → stated_mask_length b ≡ 4
      → bytes' ≡ after (write_due s (take (area s) buffer') (length bytes))
      (λ n. at_front (record_bytes s (take (area s) buffer')) bytes) bytes
      → length b ≤ length bytes
      → (write_due s (take (area s) buffer') (length bytes) ≡ accepted (length b))
      × (bytes' ≡ at_front b bytes)
  unfolding read_due
  call_writes_back small i four memory room =
      let clear = accepted_clear (shape_in b) (read_rules b (length buffer)) s (sym i.answer) in
      let t = readable b (length buffer) clear in
      let s-is = accepted_value (shape_in b) (read_rules b (length buffer)) s (sym i.answer) in
      let all = i.memory ∙ after-accepted _ _ (sym i.answer) in
      let image : take (area s) buffer' ≡ image_in b =
      ap (take (area s)) all
      ∙ front_taken buffer (image_in b) (area s) (length_image b ∙ ap area (sym s-is)) in
      let call : write_due s (take (area s) buffer') (length bytes) ≡ accepted (length b) =
      rw (image, s-is) (read_written b small (length buffer) t four (length bytes) room) in
      let back : record_bytes s (take (area s) buffer') ≡ b =
      rw (image, s-is) (bytes_back b small (length buffer) t four) in
      (call, memory ∙ after-accepted _ _ call ∙ rw back)

-- The same of the two calls.
module _ {s : Shape} {readings bytes : List ℕ} {n : ℕ} {bytes' : List ℕ} {buffer : List ℕ}
    {r : Result Shape Refusal} {buffer' : List ℕ} where
  -- what was written reads back
  pub reads_back : WriteCall s readings bytes (Ok n) bytes'
      → ReadCall (take n bytes') buffer r buffer' → area s ≤ length buffer
      → (r ≡ Ok s) × (buffer' ≡ at_front readings buffer)
  reads_back w i room = let back =
      call_reads_back w buffer i.memory room in (outcome-accepted r s (i.answer ∙ back.0), back.1)

  -- with less room it is 7 at 0
  pub reads_back_short : WriteCall s readings bytes (Ok n) bytes'
      → ReadCall (take n bytes') buffer r buffer' → length buffer < area s
      → (outcome r ≡ refused 7 0) × (buffer' ≡ buffer)
  reads_back_short w i room = let back =
      call_reads_back_short w buffer i.memory room in (i.answer ∙ back.0, back.1)

module _ {b buffer buffer' : List ℕ} {s : Shape} {bytes : List ℕ} {w : Result ℕ Refusal}
    {bytes' : List ℕ} where
  -- what was read is written again byte by byte
  pub writes_back : AreBytes b → ReadCall b buffer (Ok s) buffer' → stated_mask_length b ≡ 4
      → WriteCall s (take (area s) buffer') bytes w bytes'
      → length b ≤ length bytes
      → (w ≡ Ok (length b)) × (bytes' ≡ at_front b bytes)
  writes_back small i four o room =
      let back = call_writes_back bytes small i four o.memory room in
      (outcome-accepted w (length b) (o.answer ∙ back.0), back.1)
