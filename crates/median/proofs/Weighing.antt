-- Weighing in one window. A sum and its rank are one number, the key, in which the sum counts more
-- than every rank; the pair with the lowest key is kept, and is that of the chosen phase once every
-- reading is weighed.
use Rattle.std.proofs.Common.{◌≡◌, ℕ, ◌+◌, ◌*◌, ◌^◌, ◌<◌, ◌≤◌, true, false, cond, ◌⊎◌, List, []}
use Rattle.std.proofs.Common.{◌∷◌, ◌++◌, refl, ap, ◌∙◌, subst, inl, inr, mul-le-mul_right, arith}
use Rattle.std.proofs.Common.{le-ltb, lt-ltb, eq-eqb, ne_eqb}
use native.Mathlib.Decide.{dec_lt, ℕ_discrete}
use Rattle.lists.specs.Members.{In}
use Rattle.lists.proofs.Members.{each_in, in_some, in_left, in_right}
use Rattle.median.specs.Sum.{sum_at, AreTicks}
use Rattle.median.specs.Choice.{rank, key, chosen_phase}
use Rattle.median.proofs.Choice.{key-chosen, choose-chosen, chosen_only}
use Rattle.median.proofs.Readings.{choose-readings}
use Rattle.sums.specs.Memory.{no_sum}
use Rattle.median.specs.Ranks.{tick_of}
use Rattle.median.specs.Weighed.{is_lower_pair}
use Rattle.median.specs.Weighed.{IsFound, IsUnweighed, IsWeighed}
use Rattle.median.proofs.RankLaws.{rank_cycle, tick-rank}

-- an element of a list with one more at its end is in the list, or is the last one
in_more : (y x : ℕ) (xs : List ℕ) → In y (xs ++ (x ∷ [])) → In y xs ⊎ (y ≡ x)
in_more y x [] (inl e) = inr e
in_more y x [] (inr i) = absurd i
in_more y x (z ∷ zs) (inl e) = inl (inl e)
in_more y x (z ∷ zs) (inr i) = wider (in_more y x zs i)
  where
    wider : In y zs ⊎ (y ≡ x) → In y (z ∷ zs) ⊎ (y ≡ x)
    wider (inl j) = inl (inr j)
    wider (inr e) = inr e

-- a lower sum makes a lower key, whatever its rank
pub outweighed : (s b x m : ℕ) → s < b → x ≤ m → s * m + x ≤ b * m
outweighed s b x m h g = omega (arith, mul-le-mul_right m h)

-- One reading more: q, with the sum s and the rank x, where b and o are kept.
module _ {c a : ℕ} {sum : ℕ → ℕ} {zs : List ℕ} {b o : ℕ} (w : IsWeighed c a sum zs b o)
    (ha : a < c) where
  module _ (q : ℕ) {s x : ℕ} (hq : q < c) (e : s ≡ sum q) (d : x ≡ rank c a q)
      (small : s < no_sum) where
    -- its rank is at most the cycle
    below : x ≤ c
    below = rw d (rank_cycle c a q ha hq)

    -- a number that is at most its key and the key that is kept is at most the key of every reading
    lows : (k : ℕ) → k ≤ s * (2 * c) + x → k ≤ b * (2 * c) + o → (p : ℕ) → In p (zs ++ (q ∷ []))
        → k ≤ key c a sum p
    unfolding key
    lows k h g p i = go (in_more p q zs i)
      where
        go : In p zs ⊎ (p ≡ q) → k ≤ key c a sum p
        go (inl j) = omega (arith, w.low p j)
        go (inr f) = rw (f, ← e, ← d) h

    -- where its pair is lower, it is kept
    taken : is_lower_pair s x b o ≡ true → s * (2 * c) + x ≤ b * (2 * c) + o
        → IsWeighed c a sum (zs ++ (q ∷ [])) (cond (is_lower_pair s x b o) s b)
        (cond (is_lower_pair s x b o) x o)
    taken t l =
        rw t record {
          low = lows (s * (2 * c) + x) (omega arith) l;
          nearest_cycle = below;
          found = inr (q, in_right q zs (q ∷ []) (inl refl), e, d);
        }

    -- where it is not, the pair that is kept stays
    left : is_lower_pair s x b o ≡ false → b ≤ s → b * (2 * c) + o ≤ s * (2 * c) + x
        → IsWeighed c a sum (zs ++ (q ∷ [])) (cond (is_lower_pair s x b o) s b)
        (cond (is_lower_pair s x b o) x o)
    left t h l =
        rw t record {
          low = lows (b * (2 * c) + o) l (omega arith);
          nearest_cycle = w.nearest_cycle;
          found = inr (still w.found);
        }
      where
        still : IsUnweighed zs b o ⊎ IsFound c a sum zs b o → IsFound c a sum (zs ++ (q ∷ [])) b o
        still (inl u) = absurd (omega (arith, u.1))
        still (inr f) = (f.0, in_left f.0 zs (q ∷ []) f.1, f.2, f.3)

    -- either way the readings with q are weighed
    pub weigh_more : IsWeighed c a sum (zs ++ (q ∷ [])) (cond (is_lower_pair s x b o) s b)
        (cond (is_lower_pair s x b o) x o)
    weigh_more = go (dec_lt s b) (ℕ_discrete s b) (dec_lt x o)
      where
        go : Dec (s < b) → Dec (s ≡ b) → Dec (x < o)
            → IsWeighed c a sum (zs ++ (q ∷ [])) (cond (is_lower_pair s x b o) s b)
            (cond (is_lower_pair s x b o) x o)
        go (yes h) t n = taken (rw (lt-ltb s b h))
            (omega (arith, outweighed s b x (2 * c) h (omega (arith, below))))
        go (no h) (yes t) (yes n) =
            taken (rw (le-ltb s b (omega arith), eq-eqb s b t, lt-ltb x o n))
            (omega (arith, ap (λ (v : ℕ). v * (2 * c)) t))
        go (no h) (yes t) (no n) =
            left (rw (le-ltb s b (omega arith), eq-eqb s b t, le-ltb x o (omega arith)))
            (omega arith) (omega (arith, ap (λ (v : ℕ). v * (2 * c)) t))
        go (no h) (no t) n =
            left (rw (le-ltb s b (omega arith), ne_eqb s b t)) (omega arith)
            (omega (arith, outweighed b s o (2 * c) (omega arith) (omega (arith, w.nearest_cycle))))

-- of no readings, no sum with the rank 0 is the lowest pair
pub weighed-none : {c a : ℕ} {sum : ℕ → ℕ} {zs : List ℕ} {b o : ℕ} → zs ≡ [] → b ≡ no_sum → o ≡ 0
    → IsWeighed c a sum zs b o
weighed-none n e d =
    rw n record { low = λ q i. absurd i; nearest_cycle = omega arith; found = inl (refl, e, d) }

-- A reading without a sum.
module _ {c a : ℕ} {sum : ℕ → ℕ} {zs : List ℕ} {b o : ℕ} (w : IsWeighed c a sum zs b o)
    (small : (q : ℕ) → In q zs → sum q < no_sum) where
  -- its pair is not lower than the one that is kept
  not_lower : (s x : ℕ) → s ≡ no_sum → is_lower_pair s x b o ≡ false
  not_lower s x e = go w.found
    where
      go : IsUnweighed zs b o ⊎ IsFound c a sum zs b o → is_lower_pair s x b o ≡ false
      go (inl u) = rw (
        le-ltb s b (omega (arith, u.1)),
        eq-eqb s b (omega (arith, u.1)),
        le-ltb x o (omega (arith, u.2)),
      )
      go (inr f) =
          let less : b < no_sum = omega (arith, f.2, small f.0 f.1) in
          rw (le-ltb s b (omega (arith, less)), ne_eqb s b (λ d. omega (arith, less)))

  -- so it changes nothing
  pub weigh_none : (s x : ℕ) → s ≡ no_sum
      → IsWeighed c a sum zs (cond (is_lower_pair s x b o) s b) (cond (is_lower_pair s x b o) x o)
  weigh_none s x e = rw (not_lower s x e) w

-- where all sums are below 2 ^ 31, the one that is kept is
pub weighed-signed : {c a : ℕ} {sum : ℕ → ℕ} {zs : List ℕ} {b o : ℕ} → IsWeighed c a sum zs b o
    → ((q : ℕ) → In q zs → sum q < 2 ^ 31) → b < 2 ^ 31
weighed-signed {c} {a} {sum} {zs} {b} {o} w small = go w.found
  where
    go : IsUnweighed zs b o ⊎ IsFound c a sum zs b o → b < 2 ^ 31
    go (inl u) = omega (arith, u.1)
    go (inr f) = omega (arith, f.2, small f.0 f.1)

-- Every heard reading of a window is weighed.
module _ (c a : ℕ) (zs : List ℕ) (ticks : AreTicks c zs) (centre : In a zs) where
  -- the centre is a tick
  ha : a < c
  ha = each_in (λ q. q < c) a zs ticks centre

  -- a reading with the lowest key is the chosen phase
  found-chosen : (q : ℕ) → In q zs → ((p : ℕ) → In p zs
      → key c a (λ r. sum_at c r zs) q ≤ key c a (λ r. sum_at c r zs) p) → q ≡ chosen_phase c a zs
  found-chosen q i low =
      let least = key-chosen c a (λ p. sum_at c p zs) ha zs ticks q i low in
      let other = choose-chosen c a (λ p. sum_at c p zs) ha zs ticks (in_some a zs centre) in
      chosen_only least other ∙ choose-readings c a zs ticks centre

  -- so the tick with the rank that is kept is the chosen phase
  pub weighed-chosen : (sum : ℕ → ℕ) {b o : ℕ} → ((q : ℕ) → In q zs → sum q ≡ sum_at c q zs)
      → IsWeighed c a sum zs b o → tick_of c a o ≡ chosen_phase c a zs
  unfolding key
  weighed-chosen sum {b} {o} is w = go w.found
    where
      go : IsUnweighed zs b o ⊎ IsFound c a sum zs b o → tick_of c a o ≡ chosen_phase c a zs
      go (inl u) = absurd (subst (λ (l : List ℕ). In a l) u.0 centre)
      go (inr f) =
          let q = f.0 in
          let low : (p : ℕ) → In p zs
          → sum_at c q zs * (2 * c) + rank c a q ≤ key c a (λ r. sum_at c r zs) p =
          λ p j. rw (← (is q f.1), ← (is p j))
          (omega (arith, ap (λ (v : ℕ). v * (2 * c)) f.2, f.3, w.low p j)) in
          rw f.3 (tick-rank c a q ha (each_in (λ p. p < c) q zs ticks f.1)) ∙ found-chosen q f.1 low
