-- The sums of columns, reading by reading: a pass adds or exchanges what one reading adds at each
-- tick, and the laws of sums over windows (window/proofs/Sums.antt) say what that makes of a
-- column.
use Prim.Native.Nat.{ℕ, ◌+◌, ◌%◌, ◌^◌, ◌<◌}
use mathlib.Core.Path.{◌≡◌, refl, ap, sym, ◌∙◌}
use mathlib.Core.List.{List}
use native.Mathlib.Omega.{arith}
use native.Mathlib.Nat.{add-zero, zero-add}
use Rattle.lists.specs.Tabulate.{tabulate}
use Rattle.lists.specs.Joined.{concat_from}
use Rattle.lists.specs.Total.{total}
use Rattle.lists.specs.Difference.{difference, plus_minus}
use Rattle.lists.proofs.Difference.{difference-is}
use Rattle.lists.proofs.Total.{total_more}
use Rattle.refusal.specs.Limits.{level_cycle}
use Rattle.shape.specs.declared.Shape.{Shape}
use Rattle.median.specs.Sum.{share, shares}
use Rattle.sums.specs.Memory.{AreSigned}
use Rattle.window.specs.Window.{padded_at, block, window}
use Rattle.window.proofs.Sums.{total_block_more, block_across, change, sum_down, change_across}
use Rattle.window.proofs.Window.{shares-small}
use Rattle.window.specs.Ready.{IsReady}
use Rattle.level_sums.specs.Sums.{window_sum, block_sum, row_change}

module _ (s : Shape) (image : List ℕ) where
  -- the reading at a row position and a column position of the padded image
  abbrev y : ℕ → ℕ → ℕ
  y = padded_at 0 s image

  -- the sum at tick q of the first l readings of the row at position p
  abbrev pub row_sum : ℕ → ℕ → ℕ → ℕ
  row_sum p l q = shares s.cycle q (tabulate (y p) 0 l)

  -- one reading more
  pub row_more : (p l q : ℕ) → row_sum p (l + 1) q ≡ row_sum p l q + share s.cycle q (y p l)
  row_more p l q = total_more (share s.cycle q) (y p) 0 l
      ∙ ap (λ (x : ℕ). row_sum p l q + share s.cycle q (y p x)) (zero-add l)

  -- the sum at tick q of the first k mask rows of the window of row i and column 0, and of l
  -- readings of the next
  abbrev pub part_sum : ℕ → ℕ → ℕ → ℕ → ℕ
  part_sum i k l q =
      shares s.cycle q (block y s.mask_columns i 0 k) + shares s.cycle q (tabulate (y (i + k)) 0 l)

  -- with no reading of the next it is the sum of the k mask rows
  pub part_none : (i k q : ℕ) → block_sum s image i k q ≡ difference (part_sum i k 0 q) 0
  unfolding total
  part_none i k q = ap (λ (x : ℕ). difference x 0) (sym (add-zero _))

  -- one reading more
  pub part_more : (i k l q : ℕ)
      → part_sum i k (l + 1) q ≡ part_sum i k l q + share s.cycle q (y (i + k) l)
  part_more i k l q = omega (arith, row_more (i + k) l q)

  -- with all of the next it is the sum of k + 1 mask rows
  pub part_all : (i k q : ℕ)
      → difference (part_sum i k s.mask_columns q) 0 ≡ block_sum s image i (k + 1) q
  part_all i k q = ap (λ (x : ℕ). difference x 0)
      (sym (total_block_more y s.mask_columns (share s.cycle q) i 0 k))

  -- no mask rows have the sum 0
  pub block_none : (i q : ℕ) → 0 ≡ block_sum s image i 0 q
  unfolding block concat_from total difference
  block_none i q = refl

  -- the sum at tick q of the window of column j, with k readings of column j + T besides
  abbrev pub entering_sum : ℕ → ℕ → ℕ → ℕ → ℕ
  entering_sum i j k q =
      window_sum s image i j q + shares s.cycle q (tabulate (λ a. y a (j + s.mask_columns)) i k)

  -- the sum at tick q of the first k readings of column j
  abbrev pub leaving_sum : ℕ → ℕ → ℕ → ℕ → ℕ
  leaving_sum i j k q = shares s.cycle q (tabulate (λ a. y a j) i k)

  -- the window of column j with k readings come in on the right and k gone out on the left
  abbrev pub column_run : ℕ → ℕ → ℕ → ℕ → ℕ
  column_run i j k q = difference (entering_sum i j k q) (leaving_sum i j k q)

  -- one reading more comes in
  pub entering_more : (i j k q : ℕ) → entering_sum i j (k + 1) q ≡ entering_sum i j k q
      + share s.cycle q (y (i + k) (j + s.mask_columns))
  entering_more i j k q =
      omega (arith, total_more (share s.cycle q) (λ a. y a (j + s.mask_columns)) i k)

  -- one reading more goes out
  pub leaving_more : (i j k q : ℕ)
      → leaving_sum i j (k + 1) q ≡ leaving_sum i j k q + share s.cycle q (y (i + k) j)
  leaving_more i j k q = total_more (share s.cycle q) (λ a. y a j) i k

  -- the difference at tick q between row i + 1 and row i at column 0, from l readings of each of
  -- the two rows
  abbrev pub change_run : ℕ → ℕ → ℕ → ℕ
  change_run i l q = difference (row_sum (i + s.mask_rows) l q) (row_sum i l q)

  -- from no readings it is 0
  pub change_none : (i q : ℕ) → 0 ≡ change_run i 0 q
  unfolding total difference
  change_none i q = refl

  -- the difference one column on: two readings come in, two go out
  pub change_next : (i j q : ℕ) → plus_minus (row_change s image i j q)
      (share s.cycle q (y (i + s.mask_rows) (j + s.mask_columns)) + share s.cycle q (y i j))
      (share s.cycle q (y (i + s.mask_rows) j) + share s.cycle q (y i (j + s.mask_columns)))
      ≡ row_change s image i (j + 1) q
  unfolding change
  change_next i j q = change_across y s.mask_columns (share s.cycle q) i j s.mask_rows

  module _ (ready : IsReady level_cycle s image) where
    -- the sums of a window are below 2 ^ 31
    pub window-signed : (i j : ℕ) → i < s.rows → j < s.columns
        → AreSigned (window_sum s image i j) s.cycle
    window-signed i j hi hj q hq = omega (arith, shares-small ready (omega arith) i j hi hj q hq)

    -- so they are their own remainders modulo 2 ^ 32
    small : (i j q : ℕ) → i < s.rows → j < s.columns → q < s.cycle
        → window_sum s image i j q < 2 ^ 32
    small i j q hi hj hq = omega (arith, window-signed i j hi hj q hq)

    -- all mask rows make the sum of the window of column 0
    pub block_all : (i q : ℕ) → i < s.rows → 0 < s.columns → q < s.cycle
        → block_sum s image i s.mask_rows q ≡ window_sum s image i 0 q
    unfolding window
    block_all i q hi hj hq = difference-is _ 0 _ (add-zero _) (small i 0 q hi hj hq)

    -- with no readings exchanged it is the sum of column j
    pub column_none : (i j q : ℕ) → i < s.rows → j < s.columns → q < s.cycle
        → window_sum s image i j q ≡ column_run i j 0 q
    unfolding total
    column_none i j q hi hj hq = sym (difference-is _ 0 _ refl (small i j q hi hj hq))

    -- with all exchanged it is the sum of column j + 1
    pub column_all : (i j q : ℕ) → i < s.rows → j + 1 < s.columns → q < s.cycle
        → column_run i j s.mask_rows q ≡ window_sum s image i (j + 1) q
    unfolding window
    column_all i j q hi hj hq = difference-is _ _ _ (block_across y s.mask_columns
        (share s.cycle q) i j s.mask_rows) (small i (j + 1) q hi hj hq)

    -- a sum with the difference to the next row added is the next row's sum, exactly
    pub row_next : (i j q : ℕ) → i + 1 < s.rows → j < s.columns → q < s.cycle
        → (window_sum s image i j q + row_change s image i j q) % 2 ^ 32
        ≡ window_sum s image (i + 1) j q
    unfolding window change
    row_next i j q hi hj hq =
        sum_down y s.mask_columns (share s.cycle q) i j s.mask_rows (small (i + 1) j q hi hj hq)
