-- The mask rows of a row, one after the other: each comes to have the sums of row i, and all but
-- the first are kept for the next row.
use Prim.Native.Nat.{ℕ, ◌+◌, ◌-◌, ◌≤◌, ◌<◌}
use mathlib.Core.Path.{◌≡◌}
use mathlib.Core.List.{List}
use native.Mathlib.Omega.{arith}
use Rattle.shape.specs.Need.{reading_need}
use Rattle.shape.specs.declared.Shape.{Shape}
use Rattle.sums.specs.Memory.{Outside}
use Rattle.sums.proofs.Memory.{outside_more}
use Rattle.reading_sums.specs.Planes.{planes_length}
use Rattle.reading_sums.specs.Sums.{planes_place, HoldsLineSums, HoldsMaskSums}
use Rattle.reading_sums.proofs.Ring.{outside-need, sums_more, sums_less}
use Rattle.reading.specs.RowWeighed.{IsRowWeighed}
use Rattle.reading.specs.Rows.{IsCarried}

-- The work memory once the planes of mask row k have changed.
module _ (s : Shape) (image : List ℕ) {w w' : List ℕ} (i k : ℕ)
    (x : Outside w w' (planes_place s (i + k)) (planes_length s)) where
  -- with mask row k the mask rows up to it have the sums of row i
  pub sums_next : k < s.mask_rows → HoldsMaskSums s image i w i (i + k)
      → HoldsLineSums s image i w' (i + k) → HoldsMaskSums s image i w' i (i + (k + 1))
  sums_next h r new =
      let e : i + k + 1 ≡ i + (k + 1) = omega arith in
      rw e at (sums_more s image i i (i + k) r (omega arith) (omega arith) new x)

  -- and those after it still have the sums that they had
  pub sums_left : {h hi : ℕ} → hi ≤ i + k + s.mask_rows → HoldsMaskSums s image h w (i + k) hi
      → HoldsMaskSums s image h w' (i + (k + 1)) hi
  sums_left {h} {hi} g r =
      let e : i + k + 1 ≡ i + (k + 1) = omega arith in
      rw e at (sums_less s image h (i + k) hi r g x)

-- the first k mask rows of row i have their sums and are weighed, and past the need the work memory
-- is as in w₀
pub record MaskRows (s : Shape) (image : List ℕ) (i k : ℕ)
    (w₀ w least nearest : List ℕ) : Type 0 where
  pub weighed : IsRowWeighed s image i k 0 least nearest
  pub sums : HoldsMaskSums s image i w i (i + k)
  pub outside : Outside w₀ w 0 (reading_need s)

-- one mask row more
pub mask_rows_next : {s : Shape} {image : List ℕ} {i k : ℕ}
    {w₀ w least nearest w' least' nearest' : List ℕ} → MaskRows s image i k w₀ w least nearest
    → k < s.mask_rows → HoldsLineSums s image i w' (i + k) × Outside w w' (planes_place s (i + k))
    (planes_length s) → IsRowWeighed s image i (k + 1) 0 least' nearest'
    → MaskRows s image i (k + 1) w₀ w' least' nearest'
mask_rows_next {s} {image} {i} {k} r h x y = record {
  weighed = y;
  sums = sums_next s image i k x.1 h r.sums x.0;
  outside = outside_more r.outside (outside-need s (i + k) x.1 (omega arith));
}

-- all mask rows of row i but the first are the first ones of row i + 1, with the sums of row i
pub carried_next : {s : Shape} {image w : List ℕ} {i : ℕ} → 0 < s.mask_rows
    → HoldsMaskSums s image i w i (i + s.mask_rows)
    → IsCarried s image (i + 1) (s.mask_rows - 1) w
carried_next {s} {image} {w} {i} h r =
    let e : i + 1 - 1 ≡ i = omega arith in
    record {
      some_left = omega arith;
      begun = λ g. omega arith;
      sums =
          rw e (λ a u v. r a (omega arith) (omega arith));
    }
