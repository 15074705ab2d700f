-- What an engine is given and what it leaves (SPECIFICATION, "Rows"; SPECIFICATION, "Lent memory"):
-- `limit` is the longest cycle that it takes, and `need` the numbers of work memory that it needs.
use Rattle.std.specs.Prelude.{ℕ, ◌*◌, ◌≤◌, ◌≡◌, List}
use Rattle.lists.specs.Tabulate.{set_range}
use Rattle.shape.specs.Rules.{area}
use Rattle.shape.specs.declared.Shape.{Shape}
use Rattle.sums.specs.Memory.{Outside}
use Rattle.window.specs.Phase.{phase_at}
use Rattle.window.specs.Ready.{IsReady}

-- the image has passed its tests, and the work memory, `work` numbers, is long enough
pub record IsGiven (limit : ℕ) (need : Shape → ℕ) (s : Shape) (image : List ℕ)
    (work : ℕ) : Type 0 where
  pub ready : IsReady limit s image
  pub room : need s ≤ work

-- besides, the rows from first up to end are rows of the image, and the output, `output` numbers,
-- is long enough
pub record IsFillable (limit : ℕ) (need : Shape → ℕ) (s : Shape) (image : List ℕ)
    (first end output work : ℕ) : Type 0 where
  pub given : IsGiven limit need s image work
  pub order : first ≤ end
  pub within : end ≤ s.rows
  pub output-room : area s ≤ output

-- these rows of the output hold their phases, its other numbers are as they were, and of the work
-- memory only the numbers that the engine needs may differ
pub record IsFilled (need : Shape → ℕ) (s : Shape) (image : List ℕ) (first end : ℕ)
    (output₀ output work₀ work : List ℕ) : Type 0 where
  pub phases : output ≡ set_range (phase_at s image) (first * s.columns) (end * s.columns) output₀
  pub outside : Outside work₀ work 0 (need s)
