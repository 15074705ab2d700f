-- What a row of the reading engine takes over from the row above. Internal to the engine.
use Rattle.std.specs.Prelude.{ℕ, ◌+◌, ◌-◌, ◌<◌, List}
use Rattle.shape.specs.declared.Shape.{Shape}
use Rattle.reading_sums.specs.Sums.{HoldsMaskSums}

-- the first `carried_rows` mask rows of row i, which are not all of them, have the sums of the row
-- above
pub record IsCarried (s : Shape) (image : List ℕ) (i carried_rows : ℕ) (w : List ℕ) : Type 0 where
  pub some_left : carried_rows < s.mask_rows
  pub begun : 0 < carried_rows → 0 < i
  pub sums : HoldsMaskSums s image (i - 1) w i (i + carried_rows)
