-- The line of centres, on the way to what stands in for the silent ones: reading after reading of
-- each window is looked at, and the first heard one is kept.
use Rattle.std.specs.Prelude.{slice_index}
use Prim.Native.Nat.{ℕ, zero, suc, ◌+◌, ◌-◌, ◌≤◌, ◌<◌}
use mathlib.Core.Path.{◌≡◌, sym, ◌∙◌}
use mathlib.Core.List.{List, [], ◌∷◌, ◌++◌, append-nil}
use native.Mathlib.Omega.{arith}
use native.Mathlib.Nat.{add-zero}
use lib.ListN.{length, take, drop, get_or}
use lib.Seq.{get_or-take, length-take-le}
use Rattle.cycle.specs.Silence.{first_heard}
use Rattle.cycle.proofs.SilenceLaws.{unheard, heard_case, heard-none, first-silent, first_stays}
use Rattle.cycle.proofs.SilenceLaws.{first_next}
use Rattle.shape.specs.Rules.{row_of}
use Rattle.shape.specs.declared.Shape.{Shape}
use Rattle.sums.specs.Memory.{Changed}
use Rattle.sums.proofs.Memory.{changed_first, part-reads}
use Rattle.window.specs.Window.{padded_at, stretch, block, part, centre}
use Rattle.window.specs.Phase.{centre_at}
use Rattle.window.proofs.Sums.{block_more}
use Rattle.window.proofs.Part.{part_empty, part-next, part_row, part-whole}
use Rattle.lines.proofs.Padding.{row-reads}
use Rattle.lines.specs.Lines.{IsLine, IsPaddedLine, AreCentres, AreCentresSoFar, AllHeard, heard_or}
use Rattle.lines.specs.Lines.{heard_or_at, padded_length}

-- the first heard one, or else the next reading, is the first heard one with that reading looked at
first_more : (xs : List ℕ) (z : ℕ) → heard_or (first_heard xs) z ≡ first_heard (xs ++ (z ∷ []))
first_more xs z =
    heard_case (first_heard xs) (λ h. rw h (sym (first_stays xs (z ∷ []) h)))
    (λ d. rw (unheard _ d) (sym (first_next xs z d)))

module _ {s : Shape} {image : List ℕ} {i : ℕ} where
  -- at the start the line is the row itself
  pub standing_start : {line₀ line : List ℕ} → IsLine line₀ → Changed line₀ line 0 s.columns
      (slice_index (row_of s.columns image i)) → AreCentresSoFar s image i 0 0 line
  unfolding centre
  standing_start b c = record {
    len = c.len ∙ b;
    holds = λ j h.
        changed_first c j h ∙ row-reads s.columns image i j h
        ∙ rw (part_empty 0 s image i j) (sym (first_next [] _ (first-silent [] heard-none)));
  }

  module _ {k : ℕ} {line : List ℕ} where
    -- one reading more of each window
    pub standing_more : {row line' : List ℕ} {l : ℕ} → AreCentresSoFar s image i k l line
        → l + s.columns ≤ padded_length s → IsPaddedLine s image (i + k) row
        → Changed line line' 0 s.columns (λ j. heard_or (get_or line j 0) (get_or row (l + j) 0))
        → AreCentresSoFar s image i k (l + 1) line'
    standing_more {l = l} t fits x c = record {
      len = c.len ∙ t.len;
      holds = λ j h.
          changed_first c j h
          ∙ rw (t.holds j h, x.holds (l + j) (omega arith), ← (part-next 0 s image i j k l))
          (first_more (centre 0 s image i j ∷ part 0 s image i j k l)
          (padded_at 0 s image (i + k) (l + j)));
    }

    -- a mask row is done
    pub standing_row : {l : ℕ} → AreCentresSoFar s image i k l line → l ≡ s.mask_columns
        → AreCentresSoFar s image i (k + 1) 0 line
    standing_row t e =
        record { len = t.len; holds = λ j h. (rw e at t).holds j h ∙ rw (part_row 0 s image i j k) }

    -- where all are heard, the next mask row changes nothing
    standing_next : AreCentresSoFar s image i k 0 line → AllHeard line s.columns
        → AreCentresSoFar s image i (k + 1) 0 line
    standing_next t all = record {
      len = t.len;
      holds = λ j h.
          let first = centre 0 s image i j ∷ block (padded_at 0 s image) s.mask_columns i j k in
          let here : get_or line j 0 ≡ first_heard first = t.holds j h ∙ rw append-nil in
          here
          ∙ rw (append-nil, block_more (padded_at 0 s image) s.mask_columns i j k)
          (sym (first_stays first (stretch (padded_at 0 s image) s.mask_columns (i + k) j)
          (rw here at (all j h))));
    }

  -- nor do m further ones
  standing_on : (m k : ℕ) {line : List ℕ} → AreCentresSoFar s image i k 0 line
      → AllHeard line s.columns
      → AreCentresSoFar s image i (k + m) 0 line
  standing_on zero k t all = rw (add-zero k) t
  standing_on (suc m) k {line} t all =
      let e : k + 1 + m ≡ k + suc m = omega arith in
      rw e at (standing_on m (k + 1) (standing_next t all) all)

  -- once every mask row is looked at, these are the centres
  pub standing_all : {k : ℕ} {line : List ℕ} → AreCentresSoFar s image i k 0 line → k ≡ s.mask_rows
      → AreCentres s image i line
  unfolding centre_at
  standing_all t e =
      record { len = t.len; holds = λ j h. (rw e at t).holds j h ∙ rw (part-whole 0 s image i j) }

  -- and so they are once all are heard
  pub standing_done : {k : ℕ} {line : List ℕ} → k ≤ s.mask_rows → AreCentresSoFar s image i k 0 line
      → AllHeard line s.columns → AreCentres s image i line
  standing_done {k} h t all = standing_all (standing_on (s.mask_rows - k) k t all) (omega arith)

-- where all of a line's front are heard, its first n readings are heard
pub heard_front : (n : ℕ) (line : List ℕ) → AllHeard (take n line) (length (take n line))
    → n ≤ length line → AllHeard line n
heard_front n line all room j h =
    rw (get_or-take n line j 0 h) at (all j (omega (arith, length-take-le n line room)))

-- place j of the lent parts: n centres from the start, m readings from place l on
pub heard_or_part : (n m l : ℕ) (line row : List ℕ) (j : ℕ) → j < n → j < m
    → heard_or_at (take n line) (take m (drop l row)) j
    ≡ heard_or (get_or line j 0) (get_or row (l + j) 0)
heard_or_part n m l line row j h g = rw (get_or-take n line j 0 h, part-reads row l m j g)
