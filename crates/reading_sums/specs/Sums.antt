-- The reading engine's sums (SPECIFICATION, "Sum"): for each row of the padded image that the
-- windows reach, its planes. They lie in a ring: those of position a start at (a modulo R) T N, so
-- that the row that goes out gives its planes to the row that comes in. Internal to the engine.
use Rattle.std.specs.Prelude.{ℕ, ◌+◌, ◌*◌, ◌%◌, ◌≤◌, ◌<◌, List}
use Rattle.shape.specs.declared.Shape.{Shape}
use Rattle.median.specs.Sum.{shares}
use Rattle.sums.specs.Memory.{Holds}
use Rattle.window.specs.Window.{padded_at, window}
use Rattle.reading_sums.specs.Passes.{mark}
use Rattle.reading_sums.specs.Planes.{planes_length, IsPlane}

-- the place of the work memory at which the planes of position a start
abbrev pub planes_place : Shape → ℕ → ℕ
planes_place s a = a % s.mask_rows * planes_length s

-- the sum of the window of row i and column j at the reading at position a and place l + j; no sum
-- if it is silent
abbrev pub reading_sum : Shape → List ℕ → ℕ → ℕ → ℕ → ℕ → ℕ
reading_sum s image i a l j = mark (padded_at 0 s image a (l + j))
    + shares s.cycle (padded_at 0 s image a (l + j)) (window 0 s image i j)

-- `planes` holds the planes of position a, with the sums of row i
pub record HoldsPlaneSums (s : Shape) (image : List ℕ) (i a : ℕ) (planes : List ℕ) : Type 0 where
  pub holds : (l : ℕ) → l < s.mask_columns → IsPlane s planes l (reading_sum s image i a l)

-- the work memory w holds them at their place
pub record HoldsLineSums (s : Shape) (image : List ℕ) (i : ℕ) (w : List ℕ) (a : ℕ) : Type 0 where
  pub holds : (l : ℕ) → l < s.mask_columns
      → Holds w (planes_place s a + l * s.columns) s.columns (reading_sum s image i a l)

-- it holds the planes of all positions from lo up to hi, with the sums of row i
abbrev pub HoldsMaskSums : Shape → List ℕ → ℕ → List ℕ → ℕ → ℕ → Type 0
HoldsMaskSums s image i w lo hi = (a : ℕ) → lo ≤ a → a < hi → HoldsLineSums s image i w a
