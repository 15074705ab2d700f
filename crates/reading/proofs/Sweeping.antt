-- A mask row in the sweep behind, for planes that are carried and for planes that are built: its
-- first planes have the sums of row i.
use Prim.Native.Nat.{ℕ, ◌+◌, ◌-◌, ◌*◌, ◌%◌, ◌^◌, ◌≤◌, ◌<◌}
use mathlib.Core.Path.{◌≡◌, ◌∙◌}
use mathlib.Core.List.{List}
use native.Mathlib.Omega.{arith}
use lib.ListN.{length, get_or, take, drop}
use borrow.Rule.Slice.PartMut.{put_mid}
use Rattle.std.proofs.lemmas.List.{length-take}
use Rattle.refusal.specs.Limits.{longest_cycle}
use Rattle.shape.specs.declared.Shape.{Shape}
use Rattle.sums.specs.Memory.{Tabulates, Changed}
use Rattle.sums.proofs.Memory.{changed_is, changed_part, part-reads}
use Rattle.window.specs.Ready.{IsReady}
use Rattle.lines.specs.Lines.{IsPaddedLine}
use Rattle.reading_sums.specs.Passes.{of_line}
use Rattle.reading_sums.specs.Planes.{Gain, net_gain, of_rows, no_gain, mark_at, carried_number}
use Rattle.reading_sums.specs.Planes.{IsSweptBehind, HoldsSumsAhead, gained_sum, planes_length}
use Rattle.reading_sums.specs.Sums.{reading_sum, HoldsPlaneSums}
use Rattle.reading_sums.proofs.Sums.{plane_within, sizes, sum_built, sum_from_above}
use Rattle.reading_sums.proofs.Sweeps.{Swept, swept_first, swept_more}
use Rattle.reading.specs.Completes.{CompletesSums}

-- the same of a part whose place is written otherwise
changed_at : {w w' : List ℕ} {base other n : ℕ} (f : ℕ → ℕ → ℕ) → base ≡ other
    → Changed w w' base n (f base) → Changed w w' other n (f other)
changed_at f e x = rw e at x

-- the first n planes have their sums, and the changes are those after turn n - 1
pub record Sweeping (s : Shape) (image : List ℕ) (i a : ℕ) (gain loss : Gain) (w changes : List ℕ)
    (n : ℕ) : Type 0 where
  -- what the numbers of the planes began at
  pub begun : Gain
  pub sums : CompletesSums s image i a begun gain loss
  pub within : n ≤ s.mask_columns
  pub count : length w ≡ planes_length s
  pub swept : Swept s gain loss begun (reading_sum s image i a) w n
  pub behind : IsSweptBehind s gain loss changes (n - 1)

module _ {s : Shape} {image : List ℕ} {i a : ℕ} {gain loss : Gain} where
  -- after the sweep ahead plane 0 has its sums
  pub sweeping_first : {w changes : List ℕ} (begun : Gain) → 0 < s.mask_columns
      → length w ≡ planes_length s
      → CompletesSums s image i a begun gain loss → HoldsSumsAhead s w begun gain loss 0
      → IsSweptBehind s gain loss changes 0 → Sweeping s image i a gain loss w changes 1
  sweeping_first begun h e sums f b = record {
    begun = begun;
    sums = sums;
    within = omega arith;
    count = e;
    swept = swept_first s gain loss begun (reading_sum s image i a) sums h f;
    behind = b;
  }

  -- one plane more, which was lent as a part of the planes
  pub sweeping_more : {w changes changes' : List ℕ} (l base k : ℕ) (plane : List ℕ)
      → Sweeping s image i a gain loss w changes l → l < s.mask_columns
      → base ≡ l * s.columns → k ≡ s.columns → length plane ≡ length (take k (drop base w))
      → Tabulates plane (gained_sum (take k (drop base w)) gain loss l)
      → IsSweptBehind s gain loss changes' l
      → Sweeping s image i a gain loss (put_mid base k w plane) changes' (l + 1)
  sweeping_more {w} l base k plane r h e d len each b =
      let next : l + 1 - 1 ≡ l = omega arith in
      let back = changed_part {w = w} plane
      (omega (arith, r.count, plane_within s l h, e)) d len each in
      let counted = changed_is
      (λ j. (get_or w (base + j) 0 + net_gain gain loss (l + j) j l) % 2 ^ 32) back (λ j g.
      let inside : j < k = omega arith in
      rw (part-reads w base k j inside)) in record {
        begun = r.begun;
        sums = r.sums;
        within = omega arith;
        count = back.len ∙ r.count;
        swept = swept_more s gain loss r.begun (reading_sum s image i a) r.sums l h r.swept
            (changed_at
            (λ b j. (get_or w (b + j) 0 + net_gain gain loss (l + j) j l) % 2 ^ 32) e counted);
        behind = rw next b;
      }

  -- plane l, lent as a part of the planes, has its sums
  pub sweeping_plane : {w changes : List ℕ} {n : ℕ} (l base k : ℕ)
      → Sweeping s image i a gain loss w changes n → l < n → base ≡ l * s.columns → k ≡ s.columns
      → Tabulates (take k (drop base w)) (reading_sum s image i a l)
  sweeping_plane {w} l base k r h e d j g =
      let inside : j < k = omega (arith, length-take k (drop base w), g) in
      part-reads w base k j inside ∙ rw e (r.swept.done l h j (omega arith))

-- After the sweep ahead.
module _ {s : Shape} {image : List ℕ} (ready : IsReady longest_cycle s image) where
  -- the mask has a column
  some : 0 < s.mask_columns
  some = omega (arith, (sizes s ready.shape).mask_columns_odd)

  module _ {own w changes : List ℕ} {i a : ℕ} (inside : i < s.rows)
      (line : IsPaddedLine s image a own) (e : length w ≡ planes_length s) where
    -- planes that are built began at the marks of their readings
    pub built_first : HoldsSumsAhead s w (mark_at own) (of_rows s image i own) no_gain 0
        → IsSweptBehind s (of_rows s image i own) no_gain changes 0
        → Sweeping s image i a (of_rows s image i own) no_gain w changes 1
    built_first f b =
        sweeping_first (mark_at own) some e (λ m j h g. sum_built ready line m j h g inside) f b

    -- planes that are carried began at the sums of the row above
    pub carried_first : {entering leaving before : List ℕ} → 0 < i
        → IsPaddedLine s image (i + s.mask_rows - 1) entering → IsPaddedLine s image (i - 1) leaving
        → HoldsPlaneSums s image (i - 1) a before → HoldsSumsAhead s w (carried_number s before)
        (of_line s.cycle own entering) (of_line s.cycle own leaving) 0
        → IsSweptBehind s (of_line s.cycle own entering) (of_line s.cycle own leaving) changes 0
        → Sweeping s image i a (of_line s.cycle own entering)
        (of_line s.cycle own leaving) w changes 1
    carried_first {before = before} later x y p f b =
        sweeping_first (carried_number s before) some e
        (λ m j h g. sum_from_above ready line m j h g (carried_number s before) later inside x y
        (p.holds m h j g)) f b
