-- The rows of a filtered image: they stand in the output after an accepted call, and each has a
-- drift.
use Rattle.std.proofs.Common.{ℕ, ◌+◌, ◌-◌, ◌*◌, ◌≤◌, ◌<◌, ◌≡◌, ap, sym, ◌∙◌, true, List, ◌++◌}
use Rattle.std.proofs.Common.{arith, length, take, drop, get_or, length-take, length-drop}
use Rattle.std.proofs.Common.{get_or-take, get_or-drop}
use Rattle.lists.specs.Tabulate.{tabulate, set_range}
use Rattle.lists.proofs.Tabulate.{length-tabulate, get_or-tabulate, is_tabulate, each_tabulate}
use Rattle.lists.proofs.Joined.{concat_from_cong}
use Rattle.lists.proofs.Parts.{part_end}
use Rattle.lists.proofs.First.{good_all}
use Rattle.lists.proofs.Written.{set_range-inside, length-set_range}
use Rattle.refusal.specs.Limits.{longest_cycle}
use Rattle.refusal.specs.Outcome.{IsClear}
use Rattle.cycle.specs.Silence.{is_reading}
use Rattle.cycle.specs.Calls.{row_rules}
use Rattle.cycle.proofs.Accepted.{clear_drift}
use Rattle.shape.specs.Rules.{area, row_of}
use Rattle.shape.specs.declared.Shape.{Shape}
use Rattle.window.specs.Ready.{IsReady}
use Rattle.window.specs.Phase.{phase_at}
use Rattle.window.proofs.Window.{sizes}
use Rattle.window.proofs.Phase.{phase-at, phase-reading}
use Rattle.sheet_text.specs.Lines.{head_line, row_line, image_lines}
use Rattle.sheet.specs.Sheet.{filtered_image}

-- a row of an image, by its numbers
row_is : (n : ℕ) (l : List ℕ) (k : ℕ) (f : ℕ → ℕ) → k + n ≤ length l
    → ((j : ℕ) → j < n → get_or l (k + j) 0 ≡ f (k + j)) → take n (drop k l) ≡ tabulate f k n
row_is n l k f room e =
    is_tabulate 0 f k n (simp (length-take, length-drop) (omega arith))
    (λ j h. get_or-take n (drop k l) j 0 h ∙ get_or-drop k l j 0 ∙ e j h)

-- images with the same rows have the same lines
pub lines_cong : (s : Shape) (p q : List ℕ) → ((i : ℕ) → i < s.rows
    → row_of s.columns p i ≡ row_of s.columns q i) → image_lines s p ≡ image_lines s q
unfolding image_lines
lines_cong s p q e =
    ap (λ (l : List ℕ). head_line s ++ l)
    (concat_from_cong (λ i. row_line s.cycle i (row_of s.columns p i))
    (λ i. row_line s.cycle i (row_of s.columns q i)) 0 s.rows
    (λ i a b. ap (row_line s.cycle i) (e i (omega arith))))

module _ {limit : ℕ} {s : Shape} {image : List ℕ} (ready : IsReady limit s image)
    (small : limit ≤ longest_cycle) where
  -- a row of the filtered image
  filtered_row : (i : ℕ) → i < s.rows → row_of s.columns (filtered_image s image) i
      ≡ tabulate (phase_at s image) (i * s.columns) s.columns
  filtered_row i h =
      let e = part_end i s.rows s.columns h in
      row_is s.columns (filtered_image s image) (i * s.columns) (phase_at s image)
      (omega (arith, length-tabulate (phase_at s image) 0 (area s)))
      (λ j g. get_or-tabulate (phase_at s image) 0 0 (area s) (i * s.columns + j) (omega arith)
      ∙ ap (phase_at s image) (omega arith))

  -- the same row of the output
  output_row : (output : List ℕ) → area s ≤ length output → (i : ℕ) → i < s.rows
      → row_of s.columns (set_range (phase_at s image) (0 * s.columns)
      (s.rows * s.columns) output) i ≡ tabulate (phase_at s image) (i * s.columns) s.columns
  output_row output room i h =
      let e = part_end i s.rows s.columns h in
      row_is s.columns _ (i * s.columns) (phase_at s image)
      (omega (
        arith,
        length-set_range (phase_at s image) (0 * s.columns) (s.rows * s.columns) output
            (omega arith) room,
      ))
      (λ j g. set_range-inside (phase_at s image) (0 * s.columns) (s.rows * s.columns) output
      (omega arith) room 0 (i * s.columns + j) (omega arith) (omega arith))

  -- so the lines of the output are those of the filtered image
  pub output_lines : (output : List ℕ) → area s ≤ length output
      → image_lines s (set_range (phase_at s image) (0 * s.columns) (s.rows * s.columns) output)
      ≡ image_lines s (filtered_image s image)
  output_lines output room = lines_cong s _ (filtered_image s image)
      (λ i h. output_row output room i h ∙ sym (filtered_row i h))

  -- every phase is a reading
  phase-good : (i j : ℕ) → i < s.rows → j < s.columns
      → is_reading s.cycle (phase_at s image (i * s.columns + j)) ≡ true
  phase-good i j hi hj = rw (phase-at s image i j hj) (phase-reading ready small i j hi hj)

  -- so the tests of the drift are clear on each row
  pub output-phases : (output : List ℕ) → area s ≤ length output → (i : ℕ) → i < s.rows
      → IsClear (row_rules s.cycle (row_of s.columns
      (set_range (phase_at s image) (0 * s.columns) (s.rows * s.columns) output) i))
  output-phases output room i h = rw (output_row output room i h) (clear_drift s.cycle _ (record {
    cycle_some = (sizes ready small).cycle_some;
    cycle_fits = omega (arith, (sizes ready small).cycle_fits);
    some = omega (
      arith,
      length-tabulate (phase_at s image) (i * s.columns) s.columns,
      (sizes ready small).columns_some,
    );
    short = omega (
      arith,
      length-tabulate (phase_at s image) (i * s.columns) s.columns,
      (sizes ready small).columns_fit,
    );
    good = good_all (is_reading s.cycle) _ (each_tabulate (λ y. is_reading s.cycle y ≡ true)
        (phase_at s image) (i * s.columns) s.columns good);
  }))
    where
      good : (k : ℕ) → i * s.columns ≤ k → k < i * s.columns + s.columns
          → is_reading s.cycle (phase_at s image k) ≡ true
      good k a b =
          let e : i * s.columns + (k - i * s.columns) ≡ k = omega arith in
          rw e at (phase-good i (k - i * s.columns) h (omega arith))
