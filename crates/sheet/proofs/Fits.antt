-- Every sheet has at most 65,536 bytes, so a text memory of that size holds all of it.
use Rattle.std.proofs.Common.{ℕ, ◌+◌, ◌*◌, ◌≤◌, ◌≡◌, refl, sym, List, ◌++◌, arith, length, drop}
use Rattle.lists.proofs.Tabulate.{length-tabulate}
use Rattle.refusal.specs.Limits.{longest_cycle, most_bytes}
use Rattle.refusal.specs.Outcome.{Outcome}
use Rattle.refusal.specs.Outcome.Outcome.{accepted, refused}
use Rattle.refusal.proofs.Outcome.{accepted_clear, accepted_value}
use Rattle.shape.specs.Rules.{area}
use Rattle.shape.specs.declared.Shape.{Shape}
use Rattle.window.specs.Phase.{phase_at}
use Rattle.window.specs.Ready.{IsReady}
use Rattle.window.proofs.Window.{sizes}
use Rattle.filter.specs.Calls.{limit}
use Rattle.filter.proofs.CallLaws.{call-ready, limit-fits}
use Rattle.record_format.specs.Reading.{shape_in, image_in, row_at, read_rules, read_due}
use Rattle.record_format.proofs.Readable.{readable}
use Rattle.sheet_text.proofs.TextLaws.{laid-front}
use Rattle.sheet_text.specs.Lines.{most_text, image_lines}
use Rattle.sheet_text.proofs.Lengths.{refusal_short, lines_short}
use Rattle.sheet.specs.declared.SheetAnswer.{SheetAnswer}
use Rattle.sheet.specs.Sheet.{engine_for, filtered_image, filtered_due, sheet_due, sheet_text}
use Rattle.sheet.specs.Sheet.{SheetCall}
use Rattle.sheet.proofs.Rows.{output_lines, output-phases}
use Rattle.sheet.proofs.Calls.{sheet_accepted}

-- the rows of a record that was read lie within it
read_within : (bytes : List ℕ) (readings : ℕ) (s : Shape) → read_due bytes readings ≡ accepted s
    → s.rows * (3 + 2 * s.columns) ≤ length bytes
unfolding read_due row_at
read_within bytes readings s answer-is =
    let clear = accepted_clear (shape_in bytes) (read_rules bytes readings) s answer-is in
    let s-is = accepted_value (shape_in bytes) (read_rules bytes readings) s answer-is in
    rw s-is (omega (arith, (readable bytes readings clear).end.whole))

-- the lines of an image that was filtered
filtered_short : (s : Shape) (image : List ℕ) (output work : ℕ)
    → s.rows * (3 + 2 * s.columns) ≤ most_bytes
    → filtered_due s image output work ≡ accepted tt
    → length (image_lines s (filtered_image s image)) ≤ most_text
unfolding filtered_due
filtered_short s image output work bytes answer-is =
    let engine = engine_for s work in
    let ready : IsReady (limit engine) s image =
    call-ready engine s 0 s.rows image output work answer-is in
    let fits : limit engine ≤ longest_cycle = limit-fits engine in
    let k = sizes ready fits in
    let room : area s ≤ length (filtered_image s image) =
    omega (arith, length-tabulate (phase_at s image) 0 (area s)) in
    rw (output_lines ready fits (filtered_image s image) room) at
    (lines_short s _ k.rows_fit k.columns_fit bytes
    (output-phases ready fits (filtered_image s image) room))

-- every sheet has at most 65,536 bytes
pub sheet_fits : (bytes : List ℕ) (readings output work : ℕ)
    → length (sheet_text (sheet_due bytes readings output work) (image_in bytes)) ≤ most_text
sheet_fits bytes readings output work = go (sheet_due bytes readings output work) refl
  where
    go : (o : Outcome Shape) → sheet_due bytes readings output work ≡ o
        → length (sheet_text o (image_in bytes)) ≤ most_text
    go (accepted s) answer-is =
        let a = sheet_accepted (sym answer-is) in
        filtered_short s (image_in bytes) output work
        (omega (arith, a.short, read_within bytes readings s a.read)) a.filtered
    go (refused number place) answer-is = omega (arith, refusal_short number place)

module _ {bytes readings output work text : List ℕ} {r : SheetAnswer}
    {readings₁ output₁ work₁ text₁ : List ℕ}
    (sheet : SheetCall bytes readings output work text r readings₁ output₁ work₁ text₁) where
  -- the length that is answered is that of the whole text
  pub sheet_length-is : r.length ≡ length (sheet_text
      (sheet_due bytes (length readings) (length output) (length work)) (image_in bytes))
  sheet_length-is = omega (arith, sheet.text.after)

  -- and at most 65,536
  pub sheet_length-fits : r.length ≤ most_text
  sheet_length-fits = omega
      (arith, sheet_length-is, sheet_fits bytes (length readings) (length output) (length work))

  -- so all of it stands at the front of a text memory of that size, and the rest of that memory is
  -- as it was
  pub sheet_whole : most_text ≤ length text
      → text₁ ≡ sheet_text (sheet_due bytes (length readings) (length output) (length work))
      (image_in bytes) ++ drop (r.length) text
  sheet_whole room =
      rw sheet_length-is (laid-front sheet.text
      (omega (arith, sheet_fits bytes (length readings) (length output) (length work))))
