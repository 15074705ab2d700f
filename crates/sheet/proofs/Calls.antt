-- Laws of the sheet's outcome: 14, then the reader, then the filter; and what an accepted sheet
-- leaves.
use Rattle.std.proofs.Common.{ℕ, ◌*◌, ◌≤◌, ◌<◌, ◌≡◌, refl, ap, sym, ◌∙◌, List, arith, ltb-false}
use Rattle.std.proofs.Common.{length, take}
use Rattle.std.specs.Prelude.{Result, Ok, Err}
use Rattle.lists.specs.First.{first_bad}
use Rattle.lists.proofs.Written.{length-set_range}
use Rattle.refusal.specs.Limits.{longest_cycle, most_rows, most_columns, most_bytes}
use Rattle.refusal.specs.declared.Refusal.{Refusal}
use Rattle.refusal.specs.Table.{number_of, place_of}
use Rattle.lists.specs.Front.{at_front}
use Rattle.lists.proofs.Stores.{front_taken, front-room}
use Rattle.refusal.specs.Outcome.{Outcome, IsClear, outcome, refusal, and_then}
use Rattle.refusal.specs.Outcome.Outcome.{accepted, refused}
use Rattle.refusal.proofs.Outcome.{not_refused, accepted_clear, accepted_value, after-accepted}
use Rattle.cycle.specs.Silence.{is_reading}
use Rattle.cycle.specs.Calls.{row_rules}
use Rattle.shape.specs.Rules.{area, row_of}
use Rattle.shape.specs.declared.Shape.{Shape}
use Rattle.window.specs.Phase.{phase_at}
use Rattle.window.specs.Ready.{IsReady}
use Rattle.window.proofs.Window.{sizes}
use Rattle.filter.specs.declared.Engine.{Engine}
use Rattle.filter.specs.Calls.{limit, need, filtered_rows, room_due, FilterCall}
use Rattle.filter.proofs.CallLaws.{IsTestedImage, call-tested, call-ready, limit-fits, good_image}
use Rattle.record_format.specs.Reading.{shape_in, image_in, read_rules, read_due}
use Rattle.record_format.proofs.Readable.{readable, length_image, image_good}
use Rattle.sheet_text.specs.Text.{LaysText}
use Rattle.sheet_text.specs.Lines.{refusal_line, image_lines}
use Rattle.sheet.specs.Sheet.{engine_for, length_due, filtered_due, filtered_image, sheet_due}
use Rattle.sheet.specs.Sheet.{FiltersRecord, SheetCall}
use Rattle.sheet.proofs.Rows.{output_lines, output-phases}

-- a good record: its image has the size of its shape, and its readings are good
record Good (bytes : List ℕ) (s : Shape) : Type 0 where
  size : length (image_in bytes) ≡ area s
  good : length (image_in bytes) ≤ first_bad (is_reading s.cycle) (image_in bytes)

-- a record that was read is good
read_good : (bytes : List ℕ) (room : ℕ) (s : Shape) → read_due bytes room ≡ accepted s
    → Good bytes s
unfolding read_due
read_good bytes room s answer-is =
    let clear = accepted_clear (shape_in bytes) (read_rules bytes room) s answer-is in
    let s-is = accepted_value (shape_in bytes) (read_rules bytes room) s answer-is in
    record {
      size = length_image bytes ∙ ap area (sym s-is);
      good =
          rw s-is (image_good bytes room (readable bytes room clear));
    }

module _ (bytes : List ℕ) (readings output work : ℕ) where
  -- a record that is too long
  long_call : {n k : ℕ} → refused n k ≡ length_due bytes
      → refused n k ≡ sheet_due bytes readings output work
  unfolding sheet_due
  long_call answer-is = rw (← answer-is)

  module _ {u : Unit {0}} (short : accepted u ≡ length_due bytes) where
    -- of a record that is not too long the reader says the rest
    short_call : sheet_due bytes readings output work
        ≡ and_then (read_due bytes readings)
        (λ s. and_then (filtered_due s (image_in bytes) output work) (λ u. accepted s))
    unfolding sheet_due
    short_call = rw (← short)

    -- A record that was read.
    module _ {s : Shape} (read : accepted s ≡ read_due bytes readings) where
      -- of a record that was read only the memory can be refused
      read_call : sheet_due bytes readings output work
          ≡ and_then (room_due (engine_for s work) s output work) (λ u. accepted s)
      unfolding filtered_due
      read_call =
          let g = read_good bytes readings s (sym read) in
          short_call
          ∙ rw (
            ← read,
            good_image (engine_for s work) s 0 s.rows (image_in bytes) output work
                (omega arith) (omega arith) g.size g.good,
          )

      -- where memory is too short, the sheet is refused by that
      pub roomless_call : {n k : ℕ} → refused n k ≡ room_due (engine_for s work) s output work
          → refused n k ≡ sheet_due bytes readings output work
      roomless_call answer-is = sym (read_call ∙ rw (← answer-is))

      -- where memory is enough, the sheet is accepted
      pub passed_call : {u : Unit {0}} → accepted u ≡ room_due (engine_for s work) s output work
          → accepted s ≡ sheet_due bytes readings output work
      passed_call answer-is = sym (read_call ∙ rw (← answer-is))

-- what it says that a sheet is accepted
pub record SheetAccepted (bytes : List ℕ) (readings output work : ℕ) (s : Shape) : Type 0 where
  pub short : length bytes ≤ most_bytes
  pub read : read_due bytes readings ≡ accepted s
  pub filtered : filtered_due s (image_in bytes) output work ≡ accepted tt

-- an accepted sheet has passed all three
pub sheet_accepted : {bytes : List ℕ} {readings output work : ℕ} {s : Shape}
    → accepted s ≡ sheet_due bytes readings output work
    → SheetAccepted bytes readings output work s
sheet_accepted {bytes} {readings} {output} {work} {s} answer-is = go (length_due bytes) refl
  where
    filtered : (t : Shape) (o : Outcome Unit) → length bytes ≤ most_bytes
        → read_due bytes readings ≡ accepted t
        → filtered_due t (image_in bytes) output work ≡ o
        → and_then o (λ u. accepted t) ≡ accepted s → SheetAccepted bytes readings output work s
    filtered t (accepted u) h r f e =
        let t-is : t ≡ s = cc in
        record { short = h; read = rw t-is at r; filtered = rw t-is at f }
    filtered t (refused n k) h r f e = not_refused (sym e)

    read : (o : Outcome Shape) → length bytes ≤ most_bytes → read_due bytes readings ≡ o
        → and_then o (λ s. and_then (filtered_due s (image_in bytes) output work) (λ u. accepted s))
        ≡ accepted s → SheetAccepted bytes readings output work s
    read (accepted t) h r e = filtered t (filtered_due t (image_in bytes) output work) h r refl e
    read (refused n k) h r e = not_refused (sym e)

    go : (o : Outcome Unit) → length_due bytes ≡ o → SheetAccepted bytes readings output work s
    go (refused n k) e =
        not_refused (answer-is ∙ sym (long_call bytes readings output work (sym e)))
    go (accepted u) e =
        let fits : length bytes ≤ most_bytes =
        ltb-false most_bytes (length bytes) (accepted_clear tt _ u e).0 in
        read (read_due bytes readings) fits refl
        (sym (short_call bytes readings output work (sym e)) ∙ sym answer-is)

-- What reading and filtering such a record leaves.
module _ {bytes : List ℕ} (readings : List ℕ) {s : Shape} where
  module _ {output work : ℕ} (a : SheetAccepted bytes (length readings) output work s)
      {readings₁ : List ℕ} (stored : readings₁ ≡ at_front (image_in bytes) readings) where
    -- the buffer is long enough for the image
    pub image_room : area s ≤ length readings₁
    image_room = omega (
      arith,
      ap length stored,
      front-room readings (image_in bytes),
      (read_good bytes (length readings) s a.read).size,
    )

    -- its front is the image
    image_stored : take (area s) readings₁ ≡ image_in bytes
    image_stored = ap (take (area s)) stored ∙ front_taken readings (image_in bytes) (area s)
        (read_good bytes (length readings) s a.read).size

  -- It is filtered.
  module _ {output work : List ℕ} (a : SheetAccepted bytes (length readings) (length output)
      (length work) s) {readings₁ : List ℕ}
      (stored : readings₁ ≡ at_front (image_in bytes) readings) {image : List ℕ} (front : image
      ≡ take (area s) readings₁) {e : Engine} (engine : e ≡ engine_for s (length work))
      {r : Result Unit Refusal} {output₁ work₁ : List ℕ}
      (call : FilterCall e s 0 s.rows image output work r output₁ work₁) where
    -- the filter accepts
    pub filter_passes : outcome r ≡ accepted tt
    unfolding filtered_due
    filter_passes = call.answer ∙ rw (front ∙ image_stored a stored, engine) a.filtered

    -- and lent memory is as it is due
    pub record_filtered : FiltersRecord
        (accepted s) bytes readings output work readings₁ output₁ work₁
    record_filtered = record {
      readings = stored;
      output = call.output ∙ after-accepted _ _ filter_passes ∙ rw (front ∙ image_stored a stored);
      work = call.work ∙ after-accepted _ _ filter_passes ∙ rw engine;
    }

module _ {bytes : List ℕ} (output : List ℕ) {readings work : ℕ} {s : Shape}
    (a : SheetAccepted bytes readings (length output) work s) where
  -- the image has passed the tests of the filter
  tested : IsTestedImage s (need (engine_for s work) s) 0 s.rows (image_in bytes) (length output) work
  unfolding filtered_due
  tested = call-tested (engine_for s work) s 0 s.rows (image_in bytes)
      (length output) work a.filtered

  -- the image is ready for the engine
  ready : IsReady (limit (engine_for s work)) s (image_in bytes)
  unfolding filtered_due
  ready = call-ready (engine_for s work) s 0 s.rows (image_in bytes) (length output) work a.filtered

  -- the cycles that the engine takes are cycles
  fits : limit (engine_for s work) ≤ longest_cycle
  fits = limit-fits (engine_for s work)

  -- The rows of the output are those of the filtered image.
  module _ {output₁ : List ℕ}
      (is : output₁ ≡ filtered_rows s 0 s.rows (image_in bytes) output) where
    -- the sizes of the image are good, and the output has room for it
    pub output_sizes : (s.rows ≤ most_rows) × (s.columns ≤ most_columns) × (area s ≤ length output₁)
    output_sizes =
        let k = sizes ready fits in
        let len : length output₁ ≡ length output = ap length is
        ∙ length-set_range (phase_at s (image_in bytes)) (0 * s.columns) (s.rows * s.columns) output
        (omega arith) tested.output-room in
        (k.rows_fit, k.columns_fit, omega (arith, len, tested.output-room))

    -- each row of the output has a drift
    pub output_clear : (i : ℕ) → i < s.rows
        → IsClear (row_rules s.cycle (row_of s.columns output₁ i))
    output_clear i h = rw is (output-phases ready fits output tested.output-room i h)

    -- the lines of the output are those of the filtered image
    pub output-text : image_lines s output₁ ≡ image_lines s (filtered_image s (image_in bytes))
    output-text = ap (image_lines s) is ∙ output_lines ready fits output tested.output-room

-- The two ends of a sheet.
module _ {bytes readings output work text readings₁ output₁ work₁ text₁ : List ℕ} {next : ℕ} where
  -- a sheet that is refused
  pub refused_sheet : {f : Refusal}
      → refusal f ≡ sheet_due bytes (length readings) (length output) (length work)
      → FiltersRecord (refusal f) bytes readings output work readings₁ output₁ work₁
      → LaysText text 0 (refusal_line (number_of f) (place_of f)) next text₁
      → SheetCall bytes readings output work text
      (record { length = next; result = Err f }) readings₁ output₁ work₁ text₁
  refused_sheet answer-is m l = rw (← answer-is) (record { answer = refl; text = l; memory = m })

  -- a sheet that is printed
  pub printed_sheet : {s : Shape}
      → accepted s ≡ sheet_due bytes (length readings) (length output) (length work)
      → FiltersRecord (accepted s) bytes readings output work readings₁ output₁ work₁
      → LaysText text 0 (image_lines s (filtered_image s (image_in bytes))) next text₁
      → SheetCall bytes readings output work text
      (record { length = next; result = Ok tt }) readings₁ output₁ work₁ text₁
  printed_sheet answer-is m l = rw (← answer-is) (record { answer = refl; text = l; memory = m })
