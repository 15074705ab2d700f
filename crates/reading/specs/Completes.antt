-- What the two sweeps over the planes of a mask row come to. Internal to the reading engine.
use Rattle.std.specs.Prelude.{◌≡◌, ℕ, ◌<◌, List}
use Rattle.shape.specs.declared.Shape.{Shape}
use Rattle.reading_sums.specs.Planes.{Gain, complete_sum}
use Rattle.reading_sums.specs.Sums.{reading_sum}

-- the planes of position a, which begin at `start`, have the sums of row i once all columns of the
-- windows are counted
abbrev pub CompletesSums : Shape → List ℕ → ℕ → ℕ → Gain → Gain → Gain → Type 0
CompletesSums s image i a start gain loss = (l j : ℕ) → l < s.mask_columns → j < s.columns
    → complete_sum s start gain loss l j ≡ reading_sum s image i a l j
