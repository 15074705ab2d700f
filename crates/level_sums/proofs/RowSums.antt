-- The columns of a row, one after the other in memory: one of them changed, and one of them lent.
use Prim.Native.Nat.{ℕ, ◌+◌, ◌-◌, ◌*◌, ◌≤◌, ◌<◌}
use mathlib.Core.Path.{◌≡◌, ap, sym, ◌∙◌}
use mathlib.Core.List.{List}
use native.Mathlib.Omega.{arith}
use native.Mathlib.Decide.{ℕ_discrete}
use borrow.Rule.Slice.PartMut.{put_mid}
use lib.ListN.{length, get_or, take, drop, length-take, length-drop}
use lib.Seq.{get_or-take}
use Rattle.lists.proofs.Parts.{part_end}
use Rattle.sums.specs.Memory.{Changed, Outside}
use Rattle.sums.proofs.Memory.{changed_part, part-reads}
use Rattle.lines.specs.declared.image.Image.{Image}
use Rattle.level_sums.specs.Sums.{HoldsColumnSums, HoldsRowSums, HoldsRowChange, IsDescending}
use Rattle.level_sums.specs.Sums.{window_sum}

-- the column before column j ends where column j begins
pub before_ends : (j c : ℕ) → (j ≡ 0 → ⊥) → (j - 1) * c + c ≡ j * c
before_ends j c some =
    let e : j - 1 + 1 ≡ j = omega arith in
    let step : (j - 1) * c + c ≡ (j - 1 + 1) * c = omega arith in
    step ∙ ap (λ (x : ℕ). x * c) e

module _ (image : Image) (i j : ℕ) where
  -- the ticks of the cycle, which are the numbers of a column
  abbrev c : ℕ
  c = image.shape.cycle

  -- column j was lent, and has come back with the sums of row i
  pub column_changed : {w part : List ℕ} {k : ℕ} → j * c + c ≤ length w → k ≡ c
      → HoldsColumnSums image i j part
      → Changed w (put_mid (j * c) k w part) (j * c) c
      (window_sum image.shape image.readings.now i j)
  column_changed {w} {part} {k} room e t =
      changed_part part room e (t.len ∙ sym (simp (length-take, length-drop) (omega arith)))
      (λ q h. t.holds q (omega (arith, t.len)))

  -- with column j the columns up to j + 1 have the sums of row i
  pub row_more : {w w' : List ℕ} → HoldsRowSums image i w 0 j → Changed w w' (j * c) c
      (window_sum image.shape image.readings.now i j) → HoldsRowSums image i w' 0 (j + 1)
  row_more {w} {w'} r x l a b q h = go (ℕ_discrete l j)
    where
      go : Dec (l ≡ j) → get_or w' (l * c + q) 0 ≡ window_sum image.shape image.readings.now i l q
      go (yes d) = rw d (x.holds q h)
      go (no d) = x.before (l * c + q) (omega (arith, part_end l j c (omega arith)))
          ∙ r l (omega arith) (omega arith) q h

  -- a change of column j is none outside it
  pub column_outside : {w w' : List ℕ} {f : ℕ → ℕ} → Changed w w' (j * c) c f
      → Outside w w' (j * c) c
  column_outside x = record { len = x.len; before = x.before; after = x.after }

  -- a change of column j leaves the columns after it as they were
  pub row_rest : {w w' : List ℕ} {m : ℕ} {f : ℕ → ℕ} → HoldsRowSums image i w j m
      → Changed w w' (j * c) c f → HoldsRowSums image i w' (j + 1) m
  row_rest r x l a b q h =
      x.after (l * c + q) (omega (arith, part_end j l c (omega arith))) ∙ r l (omega arith) b q h

  -- column j as it is lent has its sums
  pub column_lent : (w : List ℕ) {a b k : ℕ} → HoldsRowSums image i w a b → a ≤ j → j < b
      → j * c + c ≤ length w → k ≡ c → HoldsColumnSums image i j (take k (drop (j * c) w))
  column_lent w {k = k} r first last room e = record {
    len = simp (length-take, length-drop) (omega arith);
    holds = λ q h. part-reads w (j * c) k q (omega arith) ∙ r j first last q h;
  }

  -- column j as it is lent from a front that was split off has its sums
  pub column_reads : (w : List ℕ) {a b k : ℕ} → HoldsRowSums image i w a b → a ≤ j → j < b → {m : ℕ}
      → j * c + c ≤ m → m ≤ length w → k ≡ c
      → HoldsColumnSums image i j (take k (drop (j * c) (take m w)))
  column_reads w {a} {b} {k} r first last {m} room within e = record {
    len = simp (length-take, length-drop) (omega arith);
    holds = λ q h. part-reads (take m w) (j * c) k q (omega arith)
        ∙ get_or-take m w (j * c + q) 0 (omega arith) ∙ r j first last q h;
  }

-- column j has moved down, and `change` has the differences at it
pub descended : (image : Image) (i j : ℕ) {w w' change change' : List ℕ}
    → IsDescending image i j w change
    → Changed w w' (j * image.shape.cycle) image.shape.cycle
    (window_sum image.shape image.readings.now (i + 1) j) → HoldsRowChange image i j change'
    → IsDescending image i (j + 1) w' change'
descended image i j d x t = record {
  room = x.len ∙ d.room;
  ticks = t.len;
  done = row_more image (i + 1) j d.done x;
  left = row_rest image i j d.left x;
  differences = λ h. let e : j + 1 - 1 ≡ j = omega arith in rw e t;
}
