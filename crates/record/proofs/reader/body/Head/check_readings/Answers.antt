-- A bad reading is the first bad one of the row; a good one is passed.
use Rattle.std.proofs.Common.{ℕ, ◌+◌, ◌*◌, ◌≡◌, ◌<◌, length, get_or, [], ◌∷◌, true, sym, ap, ◌∙◌}
use Rattle.std.proofs.Common.{rules, arith, lt-ltb, le-ltb}
use Rattle.lists.specs.First.{first_bad}
use Rattle.lists.proofs.First.{first_here, first_later, first-none}
use Rattle.refusal.specs.Outcome.{first_due, rule}
use Rattle.refusal.specs.Outcome.Outcome.{refused}
use Rattle.refusal.proofs.Outcome.{handed_alone}
use Rattle.cycle.specs.Silence.{is_reading}
use Rattle.cycle.proofs.Accepted.{passed_reading, refused_reading}
use Rattle.shape.specs.declared.Shape.{Shape}
use Rattle.record_format.specs.Layout.{body_of}
use Rattle.record_format.specs.Fields.{number_at}
use Rattle.record_format.specs.Reading.{cycle_in, columns_in, row_at, row_in}
use Rattle.record_format.proofs.FieldRead.{get_or-numbers_at}
use Rattle.record_format.proofs.Readable.{length-row_in}
use Rattle.record.proofs.reader.body.Head.check_readings.Goals as goal
use Rattle.record.proofs.reader.body.Head.check_readings.Goals.{After-number_at-x, Start}

-- the cycle is the record's
cycle_is : (c : Start) → c.args.self.now.shape.cycle ≡ cycle_in c.args.self.now.bytes.now
cycle_is c = ap (λ (s : Shape). s.cycle) c.args.self.now.shape_is

-- the reading at hand
is_read : (c : After-number_at-x)
    → get_or (row_in c.args.self.now.bytes.now c.args.i) c.loop-k.k 0 ≡ c.number_at-x.result
unfolding row_in
is_read c =
    let b = c.args.self.now.bytes.now in
    get_or-numbers_at b (body_of (row_at b c.args.i)) (columns_in b) c.loop-k.k
    (omega (arith, c.columns-columns.ensures))
    ∙ ap (number_at b) (omega (arith, c.row_at-at.ensures)) ∙ sym c.number_at-x.ensures

pub returns-in_err-check_reading : goal.returns-in_err-check_reading
unfolding first_due
returns-in_err-check_reading c =
    let b = c.args.self.now.bytes.now in
    let xs = row_in b c.args.i in
    let good = is_reading (cycle_in b) in
    let k = c.loop-k.k in
    let within : k < length xs =
    omega (arith, length-row_in b c.args.i, c.columns-columns.ensures) in
    let bad = refused_reading c.args.self.now.shape.cycle _
    (c.args.i * c.columns-columns.result + k) c.in_err-check_reading.ensures in
    let none = ap (λ (n : ℕ). is_reading n c.number_at-x.result)
    (sym (cycle_is (goal.at.returns-in_err-check_reading c).Start)) ∙ bad.0 in
    let here = first_here good 0 xs k within
    (rw (is_read (goal.at.returns-in_err-check_reading c).After-number_at-x) none) in
    let first : first_bad good xs ≡ k = omega (arith, c.loop-k.invariant, here) in
    let place : c.args.i * c.columns-columns.result + k ≡ c.args.i * columns_in b + k = cc in
    handed_alone (rule true 9 (c.args.i * c.columns-columns.result + k) ∷ []) tt bad.1
    (search rules) ∙ rw (first, lt-ltb k (length xs) within) (ap (refused 9) place)

pub loop-k-preserved : goal.loop-k-preserved
loop-k-preserved c =
    let b = c.args.self.now.bytes.now in
    let xs = row_in b c.args.i in
    let k = c.loop-k.k in
    let within : k < length xs =
    omega (arith, length-row_in b c.args.i, c.columns-columns.ensures) in
    let passed = passed_reading c.args.self.now.shape.cycle _ _ c.in_ok-check_reading.ensures in
    let good = ap (λ (n : ℕ). is_reading n c.number_at-x.result)
    (sym (cycle_is (goal.at.loop-k-preserved c).Start)) ∙ passed in
    omega (
      arith,
      c.loop-k.invariant,
      first_later (is_reading (cycle_in b)) 0 xs k within
          (rw (is_read (goal.at.loop-k-preserved c).After-number_at-x) good),
    )

pub returns : goal.returns
unfolding first_due
returns c =
    let b = c.args.self.now.bytes.now in
    let xs = row_in b c.args.i in
    let good = is_reading (cycle_in b) in
    let past = first-none good 0 xs c.loop-k.k
    (omega (arith, length-row_in b c.args.i, c.columns-columns.ensures)) in
    rw (le-ltb (first_bad good xs) (length xs) (omega
    (arith, length-row_in b c.args.i, c.columns-columns.ensures, c.loop-k.invariant, past)))
