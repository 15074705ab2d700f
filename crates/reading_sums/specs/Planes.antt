-- The planes of a line: in plane l the number of column j belongs to the reading at place l + j and
-- to the window of column j, which covers columns j to j + T - 1. What that reading gains and loses
-- is one sum over columns: the sweep ahead counts those from its place on, the sweep behind those
-- before it. Internal to the reading engine.
use Rattle.std.specs.Prelude.{ℕ, ◌+◌, ◌-◌, ◌*◌, ◌%◌, ◌^◌, ◌≤◌, ◌<◌, List, slice_index}
use Rattle.lists.specs.Tabulate.{tabulate}
use Rattle.lists.specs.Total.{total_from}
use Rattle.lists.specs.Difference.{difference, plus_minus}
use Rattle.shape.specs.declared.Shape.{Shape}
use Rattle.median.specs.Sum.{shares}
use Rattle.sums.specs.Memory.{Holds}
use Rattle.window.specs.Window.{padded_at}
use Rattle.reading_sums.specs.Passes.{marks}

-- what the reading at place p of a line gains, or loses, by column k; `of_line`:
-- by one row
abbrev pub Gain : Type 0
Gain = ℕ → ℕ → ℕ

-- what it gains by the column's readings in all rows of the windows of row i
abbrev pub of_rows : Shape → List ℕ → ℕ → List ℕ → Gain
of_rows s image i own p k =
    shares s.cycle (slice_index own p) (tabulate (λ a. padded_at 0 s image a k) i s.mask_rows)

-- no gain, by any column
abbrev pub no_gain : Gain
no_gain p k = 0

-- the gains less the losses of place p over n columns from k on, modulo 2 ^ 32
abbrev pub net_gain : Gain → Gain → ℕ → ℕ → ℕ → ℕ
net_gain gain loss p k n = difference (total_from (gain p) k n) (total_from (loss p) k n)

-- the change at place start + j with column at + j counted, where `changes` is the part from place
-- `start` on
abbrev pub counted_change : Gain → Gain → ℕ → ℕ → List ℕ → ℕ → ℕ
counted_change gain loss start at changes j =
    plus_minus (slice_index changes j) (gain (start + j) (at + j)) (loss (start + j) (at + j))

-- of all changes, n from place `start` on have the columns from `at` on counted, one each
pub record IsCounted (gain loss : Gain) (start at n : ℕ) (change₀ change : List ℕ) : Type 0 where
  pub holds : Holds change start n (λ j. plus_minus (slice_index change₀ (start + j))
      (gain (start + j) (at + j)) (loss (start + j) (at + j)))

-- after m turns of the sweep ahead the change at place p, which began at `first p`, has the m
-- columns from p on counted
pub record IsSweptAhead (s : Shape) (first : ℕ → ℕ) (gain loss : Gain) (change : List ℕ)
    (m : ℕ) : Type 0 where
  pub holds : Holds change 0 (s.columns + s.mask_columns - m)
      (λ p. (first p + net_gain gain loss p p m) % 2 ^ 32)

-- after l turns of the sweep behind the change at place l + j has the l columns before it counted
pub record IsSweptBehind (s : Shape) (gain loss : Gain) (change : List ℕ) (l : ℕ) : Type 0 where
  pub holds : Holds change l (s.columns + s.mask_columns - 1 - l)
      (λ j. net_gain gain loss (l + j) j l)

-- how many numbers the planes of a line have
abbrev pub planes_length : Shape → ℕ
planes_length s = s.mask_columns * s.columns

-- plane l of the planes holds f 0, f 1, ..
abbrev pub IsPlane : Shape → List ℕ → ℕ → (ℕ → ℕ) → Type 0
IsPlane s planes l f = Holds planes (l * s.columns) s.columns f

-- what number j of plane l begins at where planes are built: the mark of its reading
abbrev pub mark_at : List ℕ → Gain
mark_at own l j = marks own (l + j)

-- what it begins at where planes are carried: what it held
abbrev pub carried_number : Shape → List ℕ → Gain
carried_number s planes l j = slice_index planes (l * s.columns + j)

-- number j of plane l, begun at `start`, with the columns from its place on counted
abbrev pub sum_ahead : Shape → Gain → Gain → Gain → ℕ → ℕ → ℕ
sum_ahead s start gain loss l j =
    (start l j + net_gain gain loss (l + j) (l + j) (s.mask_columns - l)) % 2 ^ 32

-- and with all columns of its window counted
abbrev pub complete_sum : Shape → Gain → Gain → Gain → ℕ → ℕ → ℕ
complete_sum s start gain loss l j =
    (start l j + net_gain gain loss (l + j) j s.mask_columns) % 2 ^ 32

-- number j of plane l with the l columns behind its place counted besides
abbrev pub gained_sum : List ℕ → Gain → Gain → ℕ → ℕ → ℕ
gained_sum plane gain loss l j = (slice_index plane j + net_gain gain loss (l + j) j l) % 2 ^ 32

-- the planes from plane lo on have the columns from each place on counted, as after the sweep ahead
pub record HoldsSumsAhead (s : Shape) (planes : List ℕ) (start gain loss : Gain)
    (lo : ℕ) : Type 0 where
  pub holds : (l : ℕ) → lo ≤ l → l < s.mask_columns
      → IsPlane s planes l (sum_ahead s start gain loss l)
