-- A column moved down from row i to row i + 1: with the differences between the two rows added, its
-- sums are those of row i + 1, exactly.
use Rattle.std.specs.Prelude.{slice_index}
use Prim.Native.Nat.{ℕ, ◌+◌, ◌<◌}
use mathlib.Core.Path.{◌≡◌, sym, ◌∙◌}
use mathlib.Core.List.{List}
use native.Mathlib.Omega.{arith}
use lib.ListN.{length}
use Rattle.sums.specs.Memory.{Tabulates, AreSigned}
use Rattle.sums.specs.Parts.{added_sum, advanced_change, increased_sum}
use Rattle.sums.proofs.Passes.{added_sum-is}
use Rattle.lines.specs.declared.image.Image.{Image}
use Rattle.refusal.specs.Limits.{level_cycle}
use Rattle.window.specs.Ready.{IsReady}
use Rattle.level_sums.specs.Sums.{HoldsColumnSums, HoldsRowChange, HoldsShares, window_sum}
use Rattle.level_sums.specs.Sums.{row_change}
use Rattle.level_sums.proofs.Running.{advanced-is, pass_signed, pass_sums, ticks_set}
use Rattle.level_sums.proofs.ColumnLaws.{window-signed, change_next, row_next}

module _ (image : Image) (ready : IsReady level_cycle image.shape image.readings.now) (i j : ℕ)
    (next : i + 1 < image.shape.rows) where
  -- the sums of the window of a row and a column
  abbrev column : ℕ → ℕ → ℕ → ℕ
  column = window_sum image.shape image.readings.now

  -- the differences between a row and the next at a column
  abbrev change_at : ℕ → ℕ → ℕ → ℕ
  change_at = row_change image.shape image.readings.now

  -- At column 0 the differences are added as they are.
  module _ {sums change : List ℕ} (within : j < image.shape.columns)
      (t : HoldsColumnSums image i j sums) (d : HoldsRowChange image i j change) where
    -- a sum with its difference added is that of the next row
    added-is : (q : ℕ) → q < image.shape.cycle → added_sum sums change q ≡ column (i + 1) j q
    added-is q h = sym (added_sum-is (slice_index sums q) (slice_index change q)) ∙ rw (
      t.holds q h,
      d.holds q h,
    ) (row_next image.shape image.readings.now ready i j q next within h)

    -- so the sums that the code computes are below 2 ^ 31
    pub down_added_signed : AreSigned (added_sum sums change) (length sums)
    down_added_signed q h =
        let tick : q < image.shape.cycle = omega (arith, t.len) in
        rw (added-is q tick)
        (window-signed image.shape image.readings.now ready (i + 1) j next within q tick)

    -- and are those of row i + 1
    pub down_added : {new : List ℕ} → Tabulates new (added_sum sums change)
        → length new ≡ length sums → HoldsColumnSums image (i + 1) j new
    down_added each len = ticks_set each (len ∙ t.len) added-is

  -- At a later column they are moved on by a column, and then added.
  module _ {sums change in₁ in₂ out₁ out₂ : List ℕ} (within : j + 1 < image.shape.columns)
      (t : HoldsColumnSums image i (j + 1) sums) (d : HoldsRowChange image i j change)
      (a : HoldsShares image (i + image.shape.mask_rows) (j + image.shape.mask_columns) in₁)
      (b : HoldsShares image i j in₂)
      (e : HoldsShares image (i + image.shape.mask_rows) j out₁)
      (f : HoldsShares image i (j + image.shape.mask_columns) out₂) where
    -- the differences moved on are those at column j + 1
    moved : (q : ℕ) → q < image.shape.cycle
        → advanced_change change in₁ in₂ out₁ out₂ q ≡ change_at i (j + 1) q
    moved = advanced-is _ _ _ _ (change_at i j) (change_at i (j + 1)) d a b e f
        (λ q h. change_next image.shape image.readings.now i j q)

    -- so they are stored
    pub down_differences : {new : List ℕ} → Tabulates new (advanced_change change in₁ in₂ out₁ out₂)
        → length new ≡ length change → HoldsRowChange image i (j + 1) new
    down_differences each len = ticks_set each (len ∙ d.len) moved

    -- the sums that the code computes are below 2 ^ 31
    pub down_turn_signed : AreSigned (increased_sum sums (advanced_change change in₁ in₂ out₁ out₂))
        (length sums)
    down_turn_signed =
        pass_signed (column i (j + 1)) (change_at i (j + 1)) (column (i + 1) (j + 1)) t moved
        (λ q h. row_next image.shape image.readings.now ready i (j + 1) q next within h)
        (window-signed image.shape image.readings.now ready (i + 1) (j + 1) next within)

    -- and are those of row i + 1
    pub down_sums : {new : List ℕ}
        → Tabulates new (increased_sum sums (advanced_change change in₁ in₂ out₁ out₂))
        → length new ≡ length sums → HoldsColumnSums image (i + 1) (j + 1) new
    down_sums each len =
        pass_sums (column i (j + 1)) (change_at i (j + 1)) (column (i + 1) (j + 1)) t moved
        (λ q h. row_next image.shape image.readings.now ready i (j + 1) q next within h) each len
