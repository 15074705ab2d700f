-- The level engine's sums and differences (SPECIFICATION, "Sum"): C numbers for each column, one
-- for each tick, column after column, and C differences between two rows at one column. Internal to
-- the engine.
use Rattle.std.specs.Prelude.{ℕ, ◌+◌, ◌-◌, ◌*◌, ◌≤◌, ◌<◌, ◌≡◌, List, length, slice_index}
use Rattle.lists.specs.Difference.{difference}
use Rattle.shape.specs.declared.Shape.{Shape}
use Rattle.median.specs.Sum.{share, shares}
use Rattle.sums.specs.Memory.{Holds, lowest}
use Rattle.window.specs.Window.{padded_at, stretch, block, window}
use Rattle.lines.specs.declared.image.Image.{Image}

-- the sum at tick q of the window of row i and column j
abbrev pub window_sum : Shape → List ℕ → ℕ → ℕ → ℕ → ℕ
window_sum s image i j q = shares s.cycle q (window 0 s image i j)

-- the sum at tick q of the first k mask rows of the window of row i and column 0, modulo 2 ^ 32
abbrev pub block_sum : Shape → List ℕ → ℕ → ℕ → ℕ → ℕ
block_sum s image i k q =
    difference (shares s.cycle q (block (padded_at 0 s image) s.mask_columns i 0 k)) 0

-- the sum at tick q of row i + 1 less that of row i, at column j, modulo 2 ^ 32: the mask row that
-- comes in below, less the one that goes out above
abbrev pub row_change : Shape → List ℕ → ℕ → ℕ → ℕ → ℕ
row_change s image i j q =
    difference
    (shares s.cycle q (stretch (padded_at 0 s image) s.mask_columns (i + s.mask_rows) j))
    (shares s.cycle q (stretch (padded_at 0 s image) s.mask_columns i j))

-- `sums` has a number for each column and tick
abbrev pub IsRow : Image → List ℕ → Type 0
IsRow image sums = length sums ≡ image.shape.columns * image.shape.cycle

-- `numbers` has a number for each tick
abbrev pub IsColumn : Image → List ℕ → Type 0
IsColumn image numbers = length numbers ≡ image.shape.cycle

-- there is a number for each of c ticks, and that of tick q is f q
pub record AtTicks (c : ℕ) (f : ℕ → ℕ) (numbers : List ℕ) : Type 0 where
  pub len : length numbers ≡ c
  pub holds : (q : ℕ) → q < c → slice_index numbers q ≡ f q

-- the numbers are what the reading at row position p and column position l of the padded image adds
-- to the sum at each tick
abbrev pub HoldsShares : Image → ℕ → ℕ → List ℕ → Type 0
HoldsShares image p l = AtTicks image.shape.cycle
    (λ q. share image.shape.cycle q (padded_at 0 image.shape image.readings.now p l))

-- the numbers are the sums of the first k mask rows of the window of row i and column 0
abbrev pub HoldsBlockSums : Image → ℕ → ℕ → List ℕ → Type 0
HoldsBlockSums image i k = AtTicks image.shape.cycle (block_sum image.shape image.readings.now i k)

-- the numbers are the sums of the window of row i and column j
abbrev pub HoldsColumnSums : Image → ℕ → ℕ → List ℕ → Type 0
HoldsColumnSums image i j =
    AtTicks image.shape.cycle (window_sum image.shape image.readings.now i j)

-- the numbers are the differences between row i + 1 and row i at column j
abbrev pub HoldsRowChange : Image → ℕ → ℕ → List ℕ → Type 0
HoldsRowChange image i j = AtTicks image.shape.cycle (row_change image.shape image.readings.now i j)

-- the lowest of the sums of the window of row i and column j
abbrev pub lowest_sum : Image → ℕ → ℕ → ℕ
lowest_sum image i j = lowest (window_sum image.shape image.readings.now i j) image.shape.cycle

-- in `sums` the columns from a up to b have the sums of row i
abbrev pub HoldsRowSums : Image → ℕ → List ℕ → ℕ → ℕ → Type 0
HoldsRowSums image i sums a b =
    (l : ℕ) → a ≤ l → l < b → Holds sums (l * image.shape.cycle) image.shape.cycle
    (window_sum image.shape image.readings.now i l)

-- on the way from row i to the next: the columns before j have the sums of row i + 1, the others
-- those of row i, and `change` the differences at the last column before j
pub record IsDescending (image : Image) (i j : ℕ) (sums change : List ℕ) : Type 0 where
  pub room : IsRow image sums
  pub ticks : IsColumn image change
  pub done : HoldsRowSums image (i + 1) sums 0 j
  pub left : HoldsRowSums image i sums j image.shape.columns
  pub differences : 0 < j → HoldsRowChange image i (j - 1) change
