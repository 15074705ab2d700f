-- The two sweeps, for planes that are carried and for planes that are built: how the changes follow
-- from each other, and how a plane's number comes to count all columns of its window.
use Prim.Native.Nat.{ℕ, suc, ◌+◌, ◌-◌, ◌*◌, ◌%◌, ◌^◌, ◌≤◌, ◌<◌}
use mathlib.Core.Path.{◌≡◌, refl, ap, sym, ◌∙◌}
use mathlib.Core.List.{List}
use native.Mathlib.Omega.{arith}
use native.Mathlib.Decide.{ℕ_discrete}
use native.Mathlib.Nat.{mul-le-mul_right}
use lib.ListN.{get_or}
use Rattle.lists.specs.Total.{total_from}
use Rattle.lists.specs.Difference.{difference, plus_minus}
use Rattle.lists.proofs.Total.{total-none, total_more, total-before, total_split}
use Rattle.lists.proofs.Difference.{difference-plus_minus, difference-begun, difference-sum}
use Rattle.lists.proofs.Difference.{difference-none}
use Rattle.shape.specs.declared.Shape.{Shape}
use Rattle.sums.specs.Memory.{Changed}
use Rattle.sums.specs.Parts.{zeros}
use Rattle.sums.proofs.Memory.{holds-before, holds_after}
use Rattle.reading_sums.specs.Planes.{Gain, net_gain, IsCounted, IsSweptAhead, IsSweptBehind}
use Rattle.reading_sums.specs.Planes.{IsPlane, sum_ahead, complete_sum, HoldsSumsAhead}

module _ (gain loss : Gain) (p : ℕ) where
  -- over no columns the gains less the losses are 0
  net-none : (k : ℕ) → net_gain gain loss p k 0 ≡ 0
  net-none k = rw (total-none (gain p), total-none (loss p)) difference-none

  -- one column more, in front of the others
  net-before : (k n : ℕ) → plus_minus (net_gain gain loss p (k + 1) n) (gain p k) (loss p k)
      ≡ net_gain gain loss p k (n + 1)
  net-before k n =
      difference-plus_minus (total_from (gain p) (k + 1) n) (total_from (loss p) (k + 1) n)
      (gain p k) (loss p k)
      ∙ ap (λ (x : ℕ). difference x (total_from (loss p) (k + 1) n + loss p k))
      (omega (arith, total-before (gain p) (λ i. i) k n))
      ∙ ap (λ (x : ℕ). difference (total_from (gain p) k (n + 1)) x)
      (omega (arith, total-before (loss p) (λ i. i) k n))

  -- n columns from k + m on, and then the m before them, are m + n columns
  net_both : (w k m n : ℕ) → ((w + net_gain gain loss p (k + m) n) % 2 ^ 32
      + net_gain gain loss p k m) % 2 ^ 32 ≡ (w + net_gain gain loss p k (m + n)) % 2 ^ 32
  net_both w k m n = difference-sum w _ _ _ _
      ∙ rw (total_split (gain p) (λ i. i) k m n, total_split (loss p) (λ i. i) k m n)

-- one column more after n others, for a change that began at w
begun_more : (gain loss : Gain) (p w k n : ℕ)
    → plus_minus ((w + net_gain gain loss p k n) % 2 ^ 32) (gain p (k + n)) (loss p (k + n))
    ≡ (w + net_gain gain loss p k (n + 1)) % 2 ^ 32
begun_more gain loss p w k n =
    difference-begun w (total_from (gain p) k n) (total_from (loss p) k n) (gain p (k + n))
    (loss p (k + n))
    ∙ rw (total_more (gain p) (λ i. i) k n, total_more (loss p) (λ i. i) k n)

module _ (s : Shape) (gain loss : Gain) where
  -- The sweep ahead, whose changes begin at `first`.
  module _ (first : ℕ → ℕ) where
    -- before its first turn
    pub ahead_none : {z₀ z : List ℕ} → ((p : ℕ) → first p < 2 ^ 32)
        → Changed z₀ z 0 (s.columns + s.mask_columns) first → IsSweptAhead s first gain loss z 0
    ahead_none fits c = record
        { holds = λ p h. c.holds p (omega arith) ∙ omega (arith, net-none gain loss p p, fits p) }

    -- one turn more
    pub ahead_more : {z₀ z : List ℕ} (m : ℕ) → m < s.mask_columns
        → IsSweptAhead s first gain loss z₀ m
        → IsCounted gain loss 0 m (s.columns + (s.mask_columns - 1 - m)) z₀ z
        → IsSweptAhead s first gain loss z (m + 1)
    ahead_more {z₀} {z} m h a c = record { holds = at }
      where
        at : (p : ℕ) → p < s.columns + s.mask_columns - (m + 1)
            → get_or z (0 + p) 0 ≡ (first p + net_gain gain loss p p (m + 1)) % 2 ^ 32
        at p l =
            let e : 0 + p ≡ p = omega arith in
            let d : m + p ≡ p + m = omega arith in
            c.holds p (omega arith)
            ∙ rw (a.holds p (omega arith), e, d) (begun_more gain loss p (first p) p m)

  -- the sweep behind, before its first turn: the changes are zeros
  pub behind-none : {z₀ z : List ℕ} → Changed z₀ z 0 (s.columns + s.mask_columns) zeros
      → IsSweptBehind s gain loss z 0
  behind-none c =
      record { holds = λ j h. c.holds j (omega arith) ∙ sym (net-none gain loss (0 + j) j) }

  -- one turn more
  pub behind_more : {z₀ z : List ℕ} (l : ℕ) → 0 < l → l < s.mask_columns
      → IsSweptBehind s gain loss z₀ (l - 1)
      → IsCounted gain loss l 0 (s.columns + (s.mask_columns - 1 - l)) z₀ z
      → IsSweptBehind s gain loss z l
  behind_more {z₀} {z} l some h b c = record { holds = at }
    where
      at : (j : ℕ) → j < s.columns + s.mask_columns - 1 - l
          → get_or z (l + j) 0 ≡ net_gain gain loss (l + j) j l
      at j g =
          let e : l - 1 + (j + 1) ≡ l + j = omega arith in
          let d : 0 + j ≡ j = omega arith in
          let n : l - 1 + 1 ≡ l = omega arith in
          let old : get_or z₀ (l + j) 0 ≡ net_gain gain loss (l + j) (j + 1) (l - 1) =
          rw e at (b.holds (j + 1) (omega arith)) in
          c.holds j (omega arith) ∙ rw (old, d)
          (net-before gain loss (l + j) j (l - 1) ∙ ap (net_gain gain loss (l + j) j) n)

  -- The planes, whose numbers begin at `start`.
  module _ (start : Gain) where
    -- before the sweep ahead no plane has its columns ahead counted
    pub fronts_none : (w : List ℕ) → HoldsSumsAhead s w start gain loss s.mask_columns
    fronts_none w = record { holds = λ l h g. absurd (omega arith) }

    -- one plane more, with f stored in it
    pub fronts_more : {w₀ w : List ℕ} {f : ℕ → ℕ} {l : ℕ}
        → HoldsSumsAhead s w₀ start gain loss (l + 1)
        → Changed w₀ w (l * s.columns) s.columns f
        → ((j : ℕ) → j < s.columns → f j ≡ sum_ahead s start gain loss l j)
        → HoldsSumsAhead s w start gain loss l
    fronts_more {w₀} {w} {f} {l} r c e = record { holds = λ m h g. go m (ℕ_discrete m l) h g }
      where
        go : (m : ℕ) → Dec (m ≡ l) → l ≤ m → m < s.mask_columns
            → IsPlane s w m (sum_ahead s start gain loss m)
        go m (yes i) h g = rw i (λ j k. c.holds j k ∙ e j k)
        go m (no i) h g =
            let past : suc l ≤ m = omega arith in
            holds_after c _ _ _ (omega (arith, mul-le-mul_right s.columns past))
            (r.holds m (omega arith) g)

    -- plane l in its turn: the changes, added to x, where x and `first` together are what its
    -- numbers begin at
    pub ahead-front : (first : ℕ → ℕ) {z : List ℕ} (l m : ℕ) → l + m ≡ s.mask_columns
        → IsSweptAhead s first gain loss z m
        → (x j : ℕ) → j < s.columns → x + first (l + j) ≡ start l j
        → (x + get_or z (l + j) 0) % 2 ^ 32 ≡ sum_ahead s start gain loss l j
    ahead-front first {z} l m h a x j g begun =
        let e : s.mask_columns - l ≡ m = omega arith in
        let d : 0 + (l + j) ≡ l + j = omega arith in
        let here : get_or z (l + j) 0 ≡ (first (l + j) + net_gain gain loss (l + j)
        (l + j) m) % 2 ^ 32 = rw d at (a.holds (l + j) (omega arith)) in
        rw (e, ← begun, here) (omega arith)

    -- plane 0 has no columns behind its places: it is complete
    front-first : (j : ℕ) → sum_ahead s start gain loss 0 j ≡ complete_sum s start gain loss 0 j
    front-first j =
        let e : s.mask_columns - 0 ≡ s.mask_columns = omega arith in
        let d : 0 + j ≡ j = omega arith in
        rw (e, d)

    -- plane l is complete with the l columns behind added
    front-whole : (l j : ℕ) → l < s.mask_columns → (sum_ahead s start gain loss l j
        + net_gain gain loss (l + j) j l) % 2 ^ 32 ≡ complete_sum s start gain loss l j
    front-whole l j h =
        let all : (p : ℕ) → p ≡ l + j
        → ((start l j + net_gain gain loss (l + j) p (s.mask_columns - l)) % 2 ^ 32
        + net_gain gain loss (l + j) j l) % 2 ^ 32 ≡ complete_sum s start gain loss l j =
        λ p e.
        let d : p ≡ j + l = omega arith in
        let t : l + (s.mask_columns - l) ≡ s.mask_columns = omega arith in
        rw d (net_both gain loss (l + j) (start l j) j l (s.mask_columns - l) ∙ rw t) in
        all (l + j) refl

    module _ (f : ℕ → ℕ → ℕ) where
      -- in the sweep behind the first n planes hold the sums f, and the others have only the
      -- columns ahead counted
      pub record Swept (w : List ℕ) (n : ℕ) : Type 0 where
        pub done : (m : ℕ) → m < n → IsPlane s w m (f m)
        pub left : HoldsSumsAhead s w start gain loss n

      module _ (sums : (l j : ℕ) → l < s.mask_columns → j < s.columns
          → complete_sum s start gain loss l j ≡ f l j) where
        -- after the sweep ahead plane 0 holds its sums
        pub swept_first : {w : List ℕ} → 0 < s.mask_columns → HoldsSumsAhead s w start gain loss 0
            → Swept w 1
        swept_first {w} h r = record {
          done = λ m k. first m (omega arith);
          left =
              record { holds = λ m k g. r.holds m (omega arith) g };
        }
          where
            first : (m : ℕ) → m ≡ 0 → IsPlane s w m (f m)
            first m e = rw e (λ j g. r.holds 0 (omega arith) h j g ∙ front-first j ∙ sums 0 j h g)

        -- one plane more
        pub swept_more : {w w' : List ℕ} (l : ℕ) → l < s.mask_columns → Swept w l
            → Changed w w' (l * s.columns) s.columns (λ j. (get_or w (l * s.columns + j) 0
            + net_gain gain loss (l + j) j l) % 2 ^ 32) → Swept w' (l + 1)
        swept_more {w} {w'} l h r c =
            record { done = λ m k. go m (ℕ_discrete m l) k; left = record { holds = rest } }
          where
            now : IsPlane s w' l (f l)
            now j g =
                c.holds j g ∙ ap (λ (x : ℕ). (x + net_gain gain loss (l + j) j l) % 2 ^ 32)
                (r.left.holds l (omega arith) h j g)
                ∙ front-whole l j h ∙ sums l j h g

            go : (m : ℕ) → Dec (m ≡ l) → m < l + 1 → IsPlane s w' m (f m)
            go m (yes e) g = rw e now
            go m (no e) g =
                let past : suc m ≤ l = omega arith in
                holds-before c _ _ _ (omega (arith, mul-le-mul_right s.columns past))
                (r.done m (omega arith))

            rest : (m : ℕ) → l + 1 ≤ m → m < s.mask_columns
                → IsPlane s w' m (sum_ahead s start gain loss m)
            rest m k g =
                let past : suc l ≤ m = omega arith in
                holds_after c _ _ _ (omega (arith, mul-le-mul_right s.columns past))
                (r.left.holds m (omega arith) g)
