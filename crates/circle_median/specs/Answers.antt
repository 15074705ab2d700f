-- How the exported functions give an outcome in plain numbers: the number 0 is that of an accepted
-- call; a refusal gives its number and its place, and 0 for all else but the count of a live
-- window. SPECIFICATION, "Numbers".
use Rattle.std.specs.Prelude.{ℕ, Bool, if◌then◌else◌, ℤ, pos, negsuc}
use Rattle.refusal.specs.Outcome.{Outcome}
use Rattle.refusal.specs.Outcome.Outcome.{accepted, refused}
use Rattle.cycle.specs.Silence.{silent}
use Rattle.shape.specs.declared.Shape.{Shape}
use Rattle.live.specs.declared.Live.{Live}
use Rattle.live.specs.declared.Live.TheVariants.{Filling, Phase, Silent}
use Rattle.circle_median.specs.declared.answers.Answer.{Answer}
use Rattle.circle_median.specs.declared.answers.ValueAnswer.{ValueAnswer}
use Rattle.circle_median.specs.declared.answers.RecordAnswer.{RecordAnswer}
use Rattle.circle_median.specs.declared.answers.WindowAnswer.{WindowAnswer}

-- five numbers as a shape: cycle, rows, columns, mask rows and mask columns
abbrev pub shape_of : ℕ → ℕ → ℕ → ℕ → ℕ → Shape
shape_of c m n r t = record { cycle = c; rows = m; columns = n; mask_rows = r; mask_columns = t }

-- of a call without a value
abbrev pub answer_of : Outcome Unit → Answer
answer_of (accepted result) = record { number = 0; place = 0 }
answer_of (refused n k) = record { number = n; place = k }

-- of a call with a value
abbrev pub value_of : Outcome ℤ → ValueAnswer
value_of (accepted v) = record { number = 0; place = 0; value = v }
value_of (refused n k) = record { number = n; place = k; value = pos 0 }

-- of the reader of records
abbrev pub record_of : Outcome Shape → RecordAnswer
record_of (accepted s) = record {
  number = 0;
  place = 0;
  cycle = s.cycle;
  rows = s.rows;
  columns = s.columns;
  mask_rows = s.mask_rows;
  mask_columns = s.mask_columns;
}
record_of (refused n k) = record
    { number = n; place = k; cycle = 0; rows = 0; columns = 0; mask_rows = 0; mask_columns = 0 }

-- a value that is a natural number: a distance or a length
abbrev pub natural_value : Outcome ℕ → Outcome ℤ
natural_value (accepted n) = accepted (pos n)
natural_value (refused n k) = refused n k

-- a value that is yes or no: 1 or 0
abbrev pub flag_value : Outcome Bool → Outcome ℤ
flag_value (accepted b) = accepted (if b then pos 1 else pos 0)
flag_value (refused n k) = refused n k

-- what a live window answers, as a value: the phase, 65,535 if none is heard, -1 while it fills
abbrev pub live_value : Live → ℤ
live_value Filling = negsuc 0
live_value (Phase p) = pos p
live_value Silent = pos silent

-- of a push into a live window
abbrev pub live_outcome : Outcome Live → Outcome ℤ
live_outcome (accepted v) = accepted (live_value v)
live_outcome (refused n k) = refused n k

-- an answer with a value, and the count of readings that a push leaves
abbrev pub window_answer_of : ValueAnswer → ℕ → WindowAnswer
window_answer_of a filled =
    record { number = a.number; place = a.place; value = a.value; filled = filled }
