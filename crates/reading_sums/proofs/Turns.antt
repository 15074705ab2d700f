-- One turn of a sweep: after its passes the columns at one offset are counted. The passes are lent
-- parts of lines: the k numbers of a line from place `start` on are `take k (drop start line)`.
use Prim.Native.Nat.{ℕ, ◌+◌, ◌-◌, ◌/◌, ◌^◌, ◌≤◌, ◌<◌}
use mathlib.Core.Path.{◌≡◌, refl, ap, sym, ◌∙◌}
use mathlib.Core.List.{List}
use native.Mathlib.Omega.{arith}
use lib.ListN.{length, get_or, take, drop, replicate}
use borrow.Rule.Slice.PartMut.{put_mid}
use Rattle.std.proofs.lemmas.List.{length-take, length-drop}
use Rattle.lists.specs.Tabulate.{tabulate}
use Rattle.lists.specs.Difference.{plus_minus}
use Rattle.lists.proofs.Total.{total-none, total_more}
use Rattle.lists.proofs.Difference.{plus_minus_twice, plus_minus-none}
use Rattle.shape.specs.declared.Shape.{Shape}
use Rattle.median.specs.Sum.{share, shares}
use Rattle.median.proofs.Sum.{share_half}
use Rattle.sums.specs.Memory.{Tabulates, Changed}
use Rattle.sums.specs.Parts.{added_sum, zeros}
use Rattle.sums.proofs.Memory.{changed_first, changed_is, changed_part, part-reads, each_filled}
use Rattle.window.specs.Window.{padded_at}
use Rattle.lines.specs.Lines.{IsPaddedLine, padded_length}
use Rattle.reading_sums.specs.Passes.{of_line, step_at, moved_change, between, between_two}
use Rattle.reading_sums.proofs.StepLaws.{moved-step}
use Rattle.reading_sums.specs.Planes.{IsCounted, counted_change, of_rows, no_gain}

-- the first n changes, once they are filled with zeros
pub cleared : {z : List ℕ} (n : ℕ) (front : List ℕ) → n ≤ length z
    → length front ≡ length (take n z) → front ≡ replicate (length (take n z)) 0
    → Changed z (put_mid 0 n z front) 0 n zeros
cleared {z} n front room len e = changed_part front (omega arith) refl len (each_filled _ e)

-- where a part of the changes has its columns counted, the changes have
pub counted-part : {gain loss : ℕ → ℕ → ℕ} {z : List ℕ} (start at base k n : ℕ) (part : List ℕ)
    → base ≡ start → base + n ≤ length z → k ≡ n
    → length part ≡ length (take k (drop base z))
    → Tabulates part (counted_change gain loss start at (take k (drop base z)))
    → IsCounted gain loss start at n z (put_mid base k z part)
counted-part {gain} {loss} {z} start at base k n part b room e len each = record {
  holds = λ j h.
      let inside : j < k = omega arith in
      let back = changed_part part room e len each in
      rw (← b) (back.holds j h ∙ rw (part-reads z base k j inside, b));
}

-- the step at place j of a part that begins at `start` is that of place start + j of the line
pub steps-read : (c : ℕ) (own entering leaving : List ℕ) (start at k m n : ℕ)
    {steps₀ steps : List ℕ} → n ≤ k → n ≤ m → start + n ≤ length own
    → Changed steps₀ steps 0 (length (take k (drop start own)))
    (step_at c (take k (drop start own)) (take m (drop at entering)) (take m (drop at leaving)))
    → (j : ℕ) → j < n → get_or steps j 0 ≡ c / 2
    + of_line c own entering (start + j) (at + j) - of_line c own leaving (start + j) (at + j)
steps-read c own entering leaving start at k m n a b room s j h =
    let u : j < k = omega arith in
    let v : j < m = omega arith in
    changed_first s j (omega (arith, length-take k (drop start own), length-drop start own))
    ∙ rw (part-reads own start k j u, part-reads entering at m j v, part-reads leaving at m j v)

-- a part of the changes that has moved on by the steps from place `from` on
pub moved-part : {z : List ℕ} (steps : List ℕ) (half base k n from m : ℕ) (part : List ℕ)
    → base + n ≤ length z → k ≡ n → n ≤ m
    → length part ≡ length (take k (drop base z))
    → Tabulates part (moved_change (take k (drop base z)) (take m (drop from steps)) half)
    → Changed z (put_mid base k z part) base n
    (λ j. plus_minus (get_or z (base + j) 0) (get_or steps (from + j) 0) half)
moved-part {z} steps half base k n from m part room e long len each =
    changed_is _ (changed_part part room e len each) (λ j h.
    let u : j < k = omega arith in
    let v : j < m = omega arith in
    rw (part-reads z base k j u, part-reads steps from m j v))

-- changes that have moved on by the steps of n places have their columns counted
pub counted-steps : (c : ℕ) (own entering leaving steps : List ℕ) (start at n : ℕ) {z₀ z : List ℕ}
    → ((j : ℕ) → j < n → get_or steps j 0 ≡ c / 2
    + of_line c own entering (start + j) (at + j) - of_line c own leaving (start + j) (at + j))
    → Changed z₀ z start n
    (λ j. plus_minus (get_or z₀ (start + j) 0) (get_or steps (0 + j) 0) (c / 2))
    → IsCounted (of_line c own entering) (of_line c own leaving) start at n z₀ z
counted-steps c own entering leaving steps start at n {z₀} s x =
    record { holds = λ j h. x.holds j h ∙ one (0 + j) j (omega arith) h }
  where
    one : (i j : ℕ) → i ≡ j → j < n
        → plus_minus (get_or z₀ (start + j) 0) (get_or steps i 0) (c / 2)
        ≡ plus_minus (get_or z₀ (start + j) 0) (of_line c own entering (start + j) (at + j))
        (of_line c own leaving (start + j) (at + j))
    one i j u h =
        let d = get_or z₀ (start + j) 0 in
        rw u (ap (λ (v : ℕ). plus_minus d v (c / 2)) (s j h)
        ∙ moved-step d (c / 2) _ _ (share_half c _ _))

-- the changes of the places from `start` on have the columns from `at` on counted, over the first k
-- rows of the windows of row i
pub record Rows (s : Shape) (image : List ℕ) (i : ℕ) (own : List ℕ) (start at k : ℕ)
    (z₀ z : List ℕ) : Type 0 where
  pub len : length z ≡ length z₀
  pub holds : Tabulates z (λ j. plus_minus (get_or z₀ j 0) (shares s.cycle
      (get_or own (start + j) 0) (tabulate (λ a. padded_at 0 s image a (at + j)) i k)) 0)

module _ {s : Shape} {image : List ℕ} {i : ℕ} {own : List ℕ} {start at : ℕ} where
  -- over no rows
  pub rows_none : {z : List ℕ} → ((q : ℕ) → get_or z q 0 < 2 ^ 32)
      → Rows s image i own start at 0 z z
  rows_none {z} fit = record {
    len = refl;
    holds = λ j h. rw (total-none (share s.cycle (get_or own (start + j) 0)))
        (sym (plus_minus-none _ (fit j)));
  }

  -- with gains added that are what the rows from k up to m add
  rows_added : {z₀ z z' : List ℕ} (gains : List ℕ) (k m g : ℕ) → Rows s image i own start at k z₀ z
      → length z₀ ≤ g → length z' ≡ length z
      → Tabulates z' (added_sum z (take g gains))
      → ((j : ℕ) → j < length z₀ → shares s.cycle (get_or own (start + j) 0)
      (tabulate (λ a. padded_at 0 s image a (at + j)) i m)
      ≡ shares s.cycle (get_or own (start + j) 0)
      (tabulate (λ a. padded_at 0 s image a (at + j)) i k) + get_or gains j 0)
      → Rows s image i own start at m z₀ z'
  rows_added {z₀} {z} {z'} gains k m g r long len grown e = record {
    len = len ∙ r.len;
    holds = λ j h.
        let inside : j < g = omega (arith, len, r.len) in
        grown j h ∙ rw (part-reads gains 0 g j inside)
        (at-place j (0 + j) (omega arith) (omega (arith, len, r.len)));
  }
    where
      at-place : (j p : ℕ) → p ≡ j → j < length z₀
          → plus_minus (get_or z j 0) (get_or gains p 0) 0
          ≡ plus_minus (get_or z₀ j 0) (shares s.cycle (get_or own (start + j) 0)
          (tabulate (λ a. padded_at 0 s image a (at + j)) i m)) 0
      at-place j p u h = rw (u, r.holds j (omega (arith, r.len)), e j h) (plus_minus_twice _ _ _)

  module _ {z₀ z z' gains₀ gains : List ℕ} (k n : ℕ) (r : Rows s image i own start at k z₀ z)
      (same : length z₀ ≡ n)
      (fits : at + n ≤ padded_length s) (room : start + n ≤ length own) (len : length z' ≡ length z)
      (g u v : ℕ) (e : g ≡ n) (a : u ≡ n) (b : v ≡ n)
      (grown : Tabulates z' (added_sum z (take g gains))) where
    -- one row more
    pub rows_one : {row : List ℕ} → IsPaddedLine s image (i + k) row
        → Changed gains₀ gains 0 (length (take u (drop start own)))
        (between s.cycle (take u (drop start own)) (take v (drop at row)))
        → Rows s image i own start at (k + 1) z₀ z'
    rows_one {row} x d = rows_added gains k (k + 1) g r (omega arith) len grown (λ j h.
        let p : j < u = omega arith in
        let q : j < v = omega arith in
        total_more (share s.cycle (get_or own (start + j) 0))
        (λ a. padded_at 0 s image a (at + j)) i k
        ∙ ap (λ (t : ℕ). shares s.cycle (get_or own (start + j) 0)
        (tabulate (λ a. padded_at 0 s image a (at + j)) i k) + t)
        (sym (changed_first d j
        (omega (arith, length-take u (drop start own), length-drop start own))
        ∙ rw (
          part-reads own start u j p,
          part-reads row at v j q,
          x.holds (at + j) (omega arith),
        ))))

    -- two rows more
    pub rows_two : {row other : List ℕ} → IsPaddedLine s image (i + k) row
        → IsPaddedLine s image (i + k + 1) other
        → Changed gains₀ gains 0 (length (take u (drop start own)))
        (between_two s.cycle (take u (drop start own)) (take v (drop at row))
        (take v (drop at other)))
        → Rows s image i own start at (k + 2) z₀ z'
    rows_two {row} {other} x y d = rows_added gains k (k + 2) g r (omega arith) len grown (λ j h.
        let p : j < u = omega arith in
        let q : j < v = omega arith in
        let z = get_or own (start + j) 0 in
        let column : ℕ → ℕ = λ a. padded_at 0 s image a (at + j) in
        let two : k + 1 + 1 ≡ k + 2 = omega arith in
        let next : i + (k + 1) ≡ i + k + 1 = omega arith in
        let first = total_more (share s.cycle z) column i k in
        let second : shares s.cycle z (tabulate column i (k + 2))
        ≡ shares s.cycle z (tabulate column i (k + 1)) + share s.cycle z (column (i + k + 1)) =
        rw two at (rw next at (total_more (share s.cycle z) column i (k + 1))) in
        let here : get_or gains j 0 ≡ share s.cycle z (column (i + k))
        + share s.cycle z (column (i + k + 1)) =
        changed_first d j (omega (arith, length-take u (drop start own), length-drop start own))
        ∙ rw (
          part-reads own start u j p,
          part-reads row at v j q,
          part-reads other at v j q,
          x.holds (at + j) (omega arith),
          y.holds (at + j) (omega arith),
        ) in
        omega (arith, first, second, here))

  -- over all mask rows the columns are counted
  pub rows_counted : {z₀ z : List ℕ} {k : ℕ} → k ≡ s.mask_rows → Rows s image i own start at k z₀ z
      → Tabulates z (counted_change (of_rows s image i own) no_gain start at z₀)
  rows_counted e r = rw e at r.holds
