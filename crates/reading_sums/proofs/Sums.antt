-- The sums at the readings of a line, built afresh or carried down from the row above: what a
-- reading gains over the columns of a window is what the window's rows add to its sum.
use Prim.Native.Nat.{ℕ, ◌+◌, ◌-◌, ◌*◌, ◌%◌, ◌^◌, ◌≤◌, ◌<◌}
use mathlib.Core.Path.{◌≡◌, ap, sym, ◌∙◌}
use mathlib.Core.Bool.{true}
use mathlib.Core.List.{List}
use native.Mathlib.Omega.{arith}
use native.Mathlib.Nat.{add-zero}
use lib.ListN.{get_or}
use Rattle.lists.specs.Tabulate.{tabulate}
use Rattle.lists.specs.Total.{total_from}
use Rattle.lists.proofs.Parts.{part_end}
use Rattle.lists.proofs.Total.{total_places, total-zeros, total_from_cong}
use Rattle.lists.proofs.Difference.{difference-is}
use Rattle.cycle.specs.Silence.{is_reading}
use Rattle.cycle.proofs.SilenceLaws.{reading_case}
use Rattle.refusal.specs.Limits.{longest_cycle}
use Rattle.refusal.specs.Outcome.{IsClear}
use Rattle.shape.specs.Rules.{shape_rules}
use Rattle.shape.specs.declared.Shape.{Shape}
use Rattle.shape.proofs.Accepted.{Accepted, shape_clear}
use Rattle.median.specs.Sum.{share, shares}
use Rattle.median.proofs.Sum.{shares-silent}
use Rattle.window.specs.Window.{padded_at, stretch, window}
use Rattle.window.specs.Ready.{IsReady}
use Rattle.window.proofs.Window.{padded-reading, cycle_heard, shares-small}
use Rattle.window.proofs.Sums.{change, sum_down, total_columns}
use Rattle.lines.specs.Lines.{IsPaddedLine, line_length, padded_length}
use Rattle.reading_sums.specs.Passes.{of_line, mark}
use Rattle.reading_sums.proofs.Marks.{mark-none, mark-silent}
use Rattle.reading_sums.specs.Planes.{Gain, of_rows, no_gain, mark_at, complete_sum}
use Rattle.reading_sums.specs.Planes.{planes_length}
use Rattle.reading_sums.specs.Sums.{reading_sum}

-- plane l lies within the planes
pub plane_within : (s : Shape) (l : ℕ) → l < s.mask_columns
    → l * s.columns + s.columns ≤ planes_length s
plane_within s l h = part_end l s.mask_columns s.columns h

module _ (s : Shape) (clear : IsClear (shape_rules longest_cycle s)) where
  -- the bounds of the sizes that have passed their tests
  pub sizes : Accepted longest_cycle s
  sizes = shape_clear longest_cycle s clear

  -- a line has room for the places that the sweeps go over
  pub line_room : s.columns + s.mask_columns ≤ line_length
  line_room = omega (arith, sizes.columns_fit, sizes.mask_columns_fit)

  -- the places of a window lie within the padded row
  pub place_inside : (l j : ℕ) → l < s.mask_columns → j < s.columns → l + j < padded_length s
  place_inside l j h g = omega (arith, sizes.mask_columns_odd)

module _ {s : Shape} {image : List ℕ} (ready : IsReady longest_cycle s image) {own : List ℕ} {a : ℕ}
    (x : IsPaddedLine s image a own) (l j : ℕ)
    (hl : l < s.mask_columns) (hj : j < s.columns) where
  -- the reading at position a and place l + j
  abbrev q : ℕ
  q = padded_at 0 s image a (l + j)

  -- the line has it
  at : get_or own (l + j) 0 ≡ q
  at = x.holds (l + j) (place_inside s ready.shape l j hl hj)

  -- the gain by a row over the columns of the window is what the window's readings in that row add
  gain_stretch : {row : List ℕ} {b : ℕ} → IsPaddedLine s image b row
      → total_from (of_line s.cycle own row (l + j)) j s.mask_columns
      ≡ shares s.cycle q (stretch (padded_at 0 s image) s.mask_columns b j)
  gain_stretch {row} {b} y =
      total_from_cong (of_line s.cycle own row (l + j))
      (λ k. share s.cycle q (padded_at 0 s image b k)) j s.mask_columns
      (λ k h g. ap (λ (z : ℕ). share s.cycle z (get_or row k 0)) at
      ∙ ap (share s.cycle q)
      (y.holds k (omega (arith, place_inside s ready.shape (k - j) j (omega arith) hj))))
      ∙ sym (total_places (share s.cycle q) (padded_at 0 s image b) j s.mask_columns)

  -- it is a reading
  reads : is_reading s.cycle q ≡ true
  reads = padded-reading ready (omega arith) a (l + j)

  -- its sum, or no sum, is below 2 ^ 31
  pub sum-signed : {i : ℕ} → i < s.rows → reading_sum s image i a l j < 2 ^ 31
  sum-signed {i} hi =
      reading_case s.cycle q reads
      (λ h. omega (
        arith,
        mark-none q (cycle_heard ready (omega arith) q h),
        shares-small ready (omega arith) i j hi hj q h,
      ))
      (λ e. omega (arith, mark-silent q e, shares-silent s.cycle q (window 0 s image i j) e))

  -- a mark m and a sum f with a difference d added are the mark and the sum g
  stays : (m f g d : ℕ) → (f + d) % 2 ^ 32 ≡ g → m + g < 2 ^ 31 → (m + f + d) % 2 ^ 32 ≡ m + g
  stays m f g d e h = omega arith

  -- the sum of row i with the gains by the row that comes in and the losses by the one that goes
  -- out is that of row i + 1
  pub sum_carried : {entering leaving : List ℕ} {i : ℕ} (start : Gain) → i + 1 < s.rows
      → IsPaddedLine s image (i + s.mask_rows) entering
      → IsPaddedLine s image i leaving → start l j ≡ reading_sum s image i a l j
      → complete_sum s start (of_line s.cycle own entering) (of_line s.cycle own leaving) l j
      ≡ reading_sum s image (i + 1) a l j
  unfolding change window
  sum_carried {i = i} start hi y z e =
      let sums = sum-signed hi in
      rw (e, gain_stretch y, gain_stretch z)
      (stays (mark q) _ _ _ (sum_down (padded_at 0 s image) s.mask_columns
      (share s.cycle q) i j s.mask_rows (omega (arith, sums))) sums)

  -- the same for row i, from row i - 1
  pub sum_from_above : {entering leaving : List ℕ} {i : ℕ} (start : Gain) → 0 < i → i < s.rows
      → IsPaddedLine s image (i + s.mask_rows - 1) entering
      → IsPaddedLine s image (i - 1) leaving → start l j ≡ reading_sum s image (i - 1) a l j
      → complete_sum s start (of_line s.cycle own entering) (of_line s.cycle own leaving) l j
      ≡ reading_sum s image i a l j
  sum_from_above {i = i} start some hi y z e =
      let next : i - 1 + 1 ≡ i = omega arith in
      let below : i + s.mask_rows - 1 ≡ i - 1 + s.mask_rows = omega arith in
      rw next at (sum_carried {i = i - 1} start (omega arith) (rw below at y) z e)

  -- the gain by all mask rows over the columns of the window is what its readings add
  gain_block : (i : ℕ) → total_from (of_rows s image i own (l + j)) j s.mask_columns
      ≡ shares s.cycle q (window 0 s image i j)
  unfolding window
  gain_block i =
      let column : ℕ → List ℕ = λ k. tabulate (λ b. padded_at 0 s image b k) i s.mask_rows in
      total_from_cong (of_rows s image i own (l + j))
      (λ k. shares s.cycle q (column k)) j s.mask_columns
      (λ k h g. ap (λ (z : ℕ). shares s.cycle z (column k)) at)
      ∙ sym (total_columns (padded_at 0 s image) s.mask_columns (share s.cycle q) i j s.mask_rows)

  -- so the mark with that gain is the sum of row i
  pub sum_built : {i : ℕ} → i < s.rows → complete_sum s (mark_at own)
      (of_rows s image i own) no_gain l j ≡ reading_sum s image i a l j
  sum_built {i} hi =
      let sums = sum-signed hi in
      let all = shares s.cycle q (window 0 s image i j) in
      rw (gain_block i, total-zeros (tabulate (λ k. k) j s.mask_columns), at)
      (omega (arith, difference-is all 0 all (add-zero all) (omega (arith, sums)), sums))
