-- What the sheet of a record answers, its text, and what it leaves in lent memory:
-- SPECIFICATION, "Sheet".
use Rattle.std.specs.Prelude.{ℕ, ◌≡◌, if◌then◌else◌, List, [], ◌∷◌, nat_lt, length}
use Rattle.lists.specs.Front.{at_front}
use Rattle.lists.specs.Tabulate.{tabulate}
use Rattle.refusal.specs.Limits.{level_cycle, most_bytes}
use Rattle.refusal.specs.Outcome.{Outcome, rule, first_due, outcome, and_then, after}
use Rattle.refusal.specs.Outcome.Outcome.{accepted, refused}
use Rattle.shape.specs.Rules.{area}
use Rattle.shape.specs.declared.Shape.{Shape}
use Rattle.window.specs.Phase.{phase_at}
use Rattle.filter.specs.declared.Engine.{Engine}
use Rattle.filter.specs.declared.Engine.TheVariants.{Level, Reading}
use Rattle.filter.specs.Calls.{need, filter_due, filtered_rows, zeroed_work}
use Rattle.record_format.specs.Reading.{image_in, read_due}
use Rattle.sheet_text.specs.Text.{LaysText}
use Rattle.sheet_text.specs.Lines.{refusal_line, image_lines}
use Rattle.sheet.specs.declared.SheetAnswer.{SheetAnswer}

-- the engine for an image, with so many numbers of work memory: the level engine wherever it can
-- run, else the reading engine
abbrev pub engine_for : Shape → ℕ → Engine
engine_for s room = if nat_lt level_cycle s.cycle then Reading else
    (if nat_lt room (need Level s) then Reading else Level)

-- test 14, on the length of the record in bytes
abbrev pub length_due : List ℕ → Outcome Unit
length_due bytes = first_due (rule (nat_lt most_bytes (length bytes)) 14 0 ∷ []) tt

-- what filtering all rows answers
unfoldable pub filtered_due : Shape → List ℕ → ℕ → ℕ → Outcome Unit
filtered_due s image output work = filter_due (engine_for s work) s 0 s.rows image output work

-- what the sheet answers, for buffers of so many numbers: 14, then the reader, then the filter
unfoldable pub sheet_due : List ℕ → ℕ → ℕ → ℕ → Outcome Shape
sheet_due bytes readings output work =
    and_then (length_due bytes) (λ u. and_then (read_due bytes readings)
    (λ s. and_then (filtered_due s (image_in bytes) output work) (λ u. accepted s)))

-- the filtered image, row by row
abbrev pub filtered_image : Shape → List ℕ → List ℕ
filtered_image s image = tabulate (phase_at s image) 0 (area s)

-- the text: the lines of the filtered image, or the line of the refusal
abbrev pub sheet_text : Outcome Shape → List ℕ → List ℕ
sheet_text (accepted s) image = image_lines s (filtered_image s image)
sheet_text (refused number place) image = refusal_line number place

-- what reading and filtering leave in lent memory: the new contents if the outcome o is accepted,
-- else what was there before
pub record FiltersRecord (o : Outcome Shape)
    (bytes readings₀ output₀ work₀ readings₁ output₁ work₁ : List ℕ) : Type 0 where
  pub readings : readings₁ ≡ after o (λ s. at_front (image_in bytes) readings₀) readings₀
  pub output : output₁ ≡ after o (λ s. filtered_rows s 0 s.rows (image_in bytes) output₀) output₀
  pub work : work₁ ≡ after o (λ s. zeroed_work (engine_for s (length work₀)) s work₀) work₀

-- what a sheet with the outcome o leaves: the text as far as there is room for it, whatever the
-- outcome, and all other memory as reading and filtering leave it
pub record SheetWith (o : Outcome Shape) (bytes readings₀ output₀ work₀ text₀ : List ℕ)
    (r : SheetAnswer) (readings₁ output₁ work₁ text₁ : List ℕ) : Type 0 where
  pub answer : outcome r.result ≡ and_then o (λ s. accepted tt)
  pub text : LaysText text₀ 0 (sheet_text o (image_in bytes)) r.length text₁
  pub memory : FiltersRecord o bytes readings₀ output₀ work₀ readings₁ output₁ work₁

-- the sheet of a record
abbrev pub SheetCall : List ℕ → List ℕ → List ℕ → List ℕ → List ℕ → SheetAnswer → List ℕ → List ℕ
    → List ℕ → List ℕ → Type 0
SheetCall bytes readings₀ output₀ work₀ text₀ r readings₁ output₁ work₁ text₁ =
    SheetWith (sheet_due bytes (length readings₀) (length output₀)
    (length work₀)) bytes readings₀ output₀ work₀ text₀ r readings₁ output₁ work₁ text₁
