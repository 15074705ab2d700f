-- Laws of the lowest of n numbers: none of them is lower, and it is one of them.
use Rattle.std.proofs.Common.{◌≡◌, ℕ, zero, suc, ◌+◌, ◌^◌, ◌<◌, ◌≤◌, min, refl, add-one, arith}
use native.Mathlib.Decide.{dec_le, ℕ_discrete}
use Rattle.sums.specs.Memory.{AreSigned, no_sum, lowest}

module _ (f : ℕ → ℕ) where
  -- of no numbers it is no sum
  pub lowest-none : lowest f 0 ≡ no_sum
  unfolding lowest
  lowest-none = refl

  -- of one number more it is the lesser of that one and the lowest of the others
  lowest_more : (n : ℕ) → lowest f (n + 1) ≡ min (f n) (lowest f n)
  unfolding lowest
  lowest_more n = rw (add-one n)

  -- a loop that keeps the lowest so far has the lowest of n + 1 after number n
  pub lowest_turn : (n : ℕ) {r x least : ℕ} → r ≡ min x least → x ≡ f n → least ≡ lowest f n
      → r ≡ lowest f (n + 1)
  lowest_turn n e d g = rw (lowest_more n) (cc)

  -- none of the numbers is lower
  pub lowest-least : (n q : ℕ) → q < n → lowest f n ≤ f q
  unfolding lowest
  lowest-least zero q h = absurd (omega arith)
  lowest-least (suc n) q h = go (ℕ_discrete q n) (lowest-least n q)
    where
      go : Dec (q ≡ n) → (q < n → lowest f n ≤ f q) → min (f n) (lowest f n) ≤ f q
      go (yes e) r = rw e (omega arith)
      go (no e) r = let l = r (omega arith) in omega arith

  -- it is below 2 ^ 31
  pub lowest-signed : (n : ℕ) → lowest f n < 2 ^ 31
  unfolding lowest
  lowest-signed zero = omega arith
  lowest-signed (suc n) = omega (arith, lowest-signed n)

  -- some number is the lowest, where there is one and all are below 2 ^ 31
  pub lowest-found : (n : ℕ) → 0 < n → AreSigned f n → (q : ℕ) × (q < n) × (f q ≡ lowest f n)
  unfolding lowest
  lowest-found zero h small = absurd (omega arith)
  lowest-found (suc zero) h small = (0, omega arith, omega (arith, small 0 (omega arith)))
  lowest-found (suc (suc n)) h small = go (dec_le (f (suc n)) (lowest f (suc n)))
      (lowest-found (suc n) (omega arith) (λ q l. small q (omega arith)))
    where
      go : Dec (f (suc n) ≤ lowest f (suc n)) → (q : ℕ) × (q < suc n) × (f q ≡ lowest f (suc n))
          → (q : ℕ) × (q < suc (suc n)) × (f q ≡ lowest f (suc (suc n)))
      go (yes l) r = (suc n, omega arith, omega arith)
      go (no l) r = (r.0, omega arith, omega (arith, r.2))

-- equal numbers have the same lowest
pub lowest_cong : (f g : ℕ → ℕ) (n : ℕ) → ((q : ℕ) → q < n → f q ≡ g q) → lowest f n ≡ lowest g n
unfolding lowest
lowest_cong f g zero e = refl
lowest_cong f g (suc n) e = let r =
    lowest_cong f g n (λ q h. e q (omega arith)) in cc (e n (omega arith))
