-- The sweep ahead, for planes that are carried and for planes that are built: after m turns the
-- changes have m columns from each place on counted, and the last m planes have their part.
use Prim.Native.Nat.{ℕ, ◌+◌, ◌-◌, ◌*◌, ◌%◌, ◌^◌, ◌≤◌, ◌<◌}
use mathlib.Core.Path.{◌≡◌, ◌∙◌}
use mathlib.Core.List.{List}
use native.Mathlib.Omega.{arith}
use native.Mathlib.Nat.{add-mul}
use lib.ListN.{get_or}
use Rattle.shape.specs.declared.Shape.{Shape}
use Rattle.sums.specs.Memory.{Changed, Outside}
use Rattle.sums.proofs.Memory.{outside-none, outside_lower}
use Rattle.reading_sums.specs.Planes.{Gain, IsCounted, IsSweptAhead, HoldsSumsAhead}
use Rattle.reading_sums.specs.Planes.{carried_number}
use Rattle.reading_sums.proofs.Sweeps.{ahead_none, ahead_more, ahead-front, fronts_none}
use Rattle.reading_sums.proofs.Sweeps.{fronts_more}

-- after m turns: `w₀` is what the planes held before the sweep, `first` what the changes began at,
-- and `begun` what the numbers of the planes begin at
pub record SweepAhead (s : Shape) (first : ℕ → ℕ) (begun gain loss : Gain) (w₀ w change : List ℕ)
    (m : ℕ) : Type 0 where
  pub within : m ≤ s.mask_columns
  pub ahead : IsSweptAhead s first gain loss change m
  pub fronts : HoldsSumsAhead s w begun gain loss (s.mask_columns - m)
  pub outside : Outside w₀ w ((s.mask_columns - m) * s.columns) (m * s.columns)

module _ {s : Shape} {first : ℕ → ℕ} {begun gain loss : Gain} where
  -- before the first turn
  pub sweep_none : {w change₀ change : List ℕ} → ((p : ℕ) → first p < 2 ^ 32)
      → Changed change₀ change 0 (s.columns + s.mask_columns) first
      → SweepAhead s first begun gain loss w w change 0
  sweep_none {w} fits c =
      let e : s.mask_columns - 0 ≡ s.mask_columns = omega arith in
      record {
        within = omega arith;
        ahead = ahead_none s gain loss first fits c;
        fronts = rw e (fronts_none s gain loss begun w);
        outside = outside-none;
      }

  module _ {w₀ w change : List ℕ} {m : ℕ}
      (x : SweepAhead s first begun gain loss w₀ w change m) where
    module _ (h : m < s.mask_columns) where
      -- the plane of the turn still holds what it held before the sweep
      pub sweep_held : (j : ℕ) → j < s.columns
          → get_or w ((s.mask_columns - 1 - m) * s.columns + j) 0
          ≡ carried_number s w₀ (s.mask_columns - 1 - m) j
      sweep_held j g =
          let last : s.mask_columns - m ≡ s.mask_columns - 1 - m + 1 = omega arith in
          x.outside.before _ (rw last (omega (arith, add-mul (s.mask_columns - 1 - m) 1 s.columns)))

      -- one turn more: f is stored in its plane, the changes added to x, where x and `first`
      -- together are `begun`
      pub sweep_more : {w' change' : List ℕ} {f : ℕ → ℕ} (x : ℕ → ℕ)
          → IsCounted gain loss 0 m (s.columns + (s.mask_columns - 1 - m)) change change'
          → Changed w w' ((s.mask_columns - 1 - m) * s.columns) s.columns f
          → ((j : ℕ) → j < s.columns
          → f j ≡ (x j + get_or change' (s.mask_columns - 1 - m + j) 0) % 2 ^ 32)
          → ((j : ℕ) → j < s.columns
          → x j + first (s.mask_columns - 1 - m + j) ≡ begun (s.mask_columns - 1 - m) j)
          → SweepAhead s first begun gain loss w₀ w' change' (m + 1)
      sweep_more {w'} {change'} {f} y c d e from =
          let l = s.mask_columns - 1 - m in
          let last : s.mask_columns - m ≡ l + 1 = omega arith in
          let next : s.mask_columns - (m + 1) ≡ l = omega arith in
          let row = add-mul l 1 s.columns in
          let ahead = ahead_more s gain loss first m h x.ahead c in
          let front = ahead-front s gain loss begun first l (m + 1) (omega arith) ahead in
          record {
            within = omega arith;
            ahead = ahead;
            fronts = rw next (fronts_more s gain loss begun (rw last at x.fronts) d
                (λ j g. e j g ∙ front (y j) j g (from j g)));
            outside = rw next (outside_lower x.outside d (rw last (omega (arith, row)))
                (omega (arith, add-mul m 1 s.columns)));
          }
