-- A row with its mirrored edges is the row of the padded image.
use Rattle.std.specs.Prelude.{slice_index}
use Prim.Native.Nat.{ℕ, ◌+◌, ◌*◌, ◌<◌}
use mathlib.Core.Path.{◌≡◌, refl, ◌∙◌}
use mathlib.Core.Bool.{true}
use mathlib.Core.List.{List}
use lib.ListN.{get_or}
use Rattle.cycle.specs.Silence.{is_reading}
use Rattle.shape.specs.Rules.{reach, row_of}
use Rattle.shape.specs.declared.Shape.{Shape}
use Rattle.sums.specs.Memory.{Changed}
use Rattle.sums.proofs.Memory.{changed_first, part-reads}
use Rattle.window.specs.Mirror.{mirror}
use Rattle.window.specs.Window.{padded_at}
use Rattle.window.proofs.Mirror.{mirror_below}
use Rattle.lines.specs.Lines.{IsLine, IsPaddedLine, padded_length, mirrored_number}

-- number j of row r is the reading at row r and column j
pub row-reads : (n : ℕ) (image : List ℕ) (r j : ℕ) → j < n
    → get_or (row_of n image r) j 0 ≡ get_or image (r * n + j) 0
row-reads n image r j h = part-reads image (r * n) n j h

module _ (s : Shape) (image : List ℕ) (p : ℕ) {r : ℕ}
    (e : r ≡ mirror s.rows (reach s.mask_rows) p) where
  -- the row that position p stands for has, at the column that position q stands for, the padded
  -- reading
  pub padded-reads : (q : ℕ) {j : ℕ} → j ≡ mirror s.columns (reach s.mask_columns) q → j < s.columns
      → get_or (row_of s.columns image r) j 0 ≡ padded_at 0 s image p q
  unfolding padded_at
  padded-reads q {j} d h = row-reads s.columns image r j h ∙ rw (e, d)

  -- the row put in place, and then its mirrored edges, make the line of position p
  pub line_made : {w₀ w₁ w₂ : List ℕ} → 0 < s.columns
      → ((q : ℕ) → is_reading s.cycle (padded_at 0 s image p q) ≡ true) → IsLine w₀
      → Changed w₀ w₁ (reach s.mask_columns) s.columns (slice_index (row_of s.columns image r))
      → Changed w₁ w₂ 0 (padded_length s) (mirrored_number w₁ s.columns (reach s.mask_columns))
      → IsPaddedLine s image p w₂
  line_made {w₀} {w₁} {w₂} some good len x y = record {
    len = long;
    holds = hold;
    reads =
        record { len = long; readings = λ q l. rw (hold q l) (good q) };
  }
    where
      long : IsLine w₂
      long = y.len ∙ x.len ∙ len

      hold : (q : ℕ) → q < padded_length s → get_or w₂ q 0 ≡ padded_at 0 s image p q
      hold q l =
          let below : mirror s.columns (reach s.mask_columns) q < s.columns =
          mirror_below s.columns (reach s.mask_columns) q some in
          changed_first y q l ∙ x.holds _ below ∙ padded-reads q refl below
