-- Running sums, tick by tick: what readings add comes in and goes out, modulo 2 ^ 32.
use Rattle.std.specs.Prelude.{slice_index}
use Prim.Native.Nat.{ℕ, ◌+◌, ◌%◌, ◌^◌, ◌<◌}
use mathlib.Core.Path.{◌≡◌, ap, ap₂, sym, ◌∙◌}
use mathlib.Core.List.{List}
use native.Mathlib.Omega.{arith}
use native.Mathlib.Nat.{add-zero}
use lib.ListN.{length, replicate, length-replicate}
use Rattle.lists.specs.Difference.{difference, plus_minus}
use Rattle.lists.proofs.Difference.{difference-plus_minus}
use Rattle.median.specs.Sum.{share}
use Rattle.sums.specs.Memory.{Tabulates, AreSigned, lowest}
use Rattle.sums.specs.Parts.{added_sum, swapped_sum, advanced_change, increased_sum}
use Rattle.sums.proofs.Memory.{each_filled}
use Rattle.sums.proofs.Lowest.{lowest_cong}
use Rattle.level_sums.specs.Sums.{AtTicks}

-- numbers that a pass has set, each to f, hold g where f and g are equal
pub ticks_set : {c : ℕ} {f g : ℕ → ℕ} {new : List ℕ} → Tabulates new f → length new ≡ c
    → ((q : ℕ) → q < c → f q ≡ g q) → AtTicks c g new
ticks_set each len e = record { len = len; holds = λ q h. each q (omega arith) ∙ e q h }

-- numbers that were filled with zeros hold f where it is 0
pub ticks_zero : {c n : ℕ} {f : ℕ → ℕ} {new : List ℕ} → new ≡ replicate n 0 → n ≡ c
    → ((q : ℕ) → 0 ≡ f q) → AtTicks c f new
ticks_zero {n = n} {new = new} e len zero =
    let long : length new ≡ n = ap length e ∙ length-replicate {A = ℕ} n 0 in
    record { len = long ∙ len; holds = λ q h. each_filled n e q (omega (arith, long)) ∙ zero q }

-- numbers that hold f hold g where f and g are equal at the ticks
pub ticks_are : {c : ℕ} {f g : ℕ → ℕ} {numbers : List ℕ} → AtTicks c f numbers
    → ((q : ℕ) → q < c → f q ≡ g q) → AtTicks c g numbers
ticks_are t e = record { len = t.len; holds = λ q h. t.holds q h ∙ e q h }

-- Numbers that are differences of sums a and b, and become differences of a' and b'.
module _ {c : ℕ} {old new : List ℕ} (a b a' b' : ℕ → ℕ)
    (sums : AtTicks c (λ q. difference (a q) (b q)) old) (len : length new ≡ length old) where
  -- the reading y comes in: it adds its share at each tick
  pub run_added : (y : ℕ) {entering : List ℕ} → AtTicks c (λ q. share c q y) entering
      → Tabulates new (added_sum old entering)
      → ((q : ℕ) → q < c → a' q ≡ a q + share c q y) → ((q : ℕ) → q < c → b' q ≡ b q)
      → AtTicks c (λ q. difference (a' q) (b' q)) new
  run_added y {entering} part each e f = ticks_set each (len ∙ sums.len) step
    where
      step : (q : ℕ) → q < c → added_sum old entering q ≡ difference (a' q) (b' q)
      step q h =
          ap₂ (λ (u v : ℕ). plus_minus u v 0) (sums.holds q h) (part.holds q h)
          ∙ difference-plus_minus (a q) (b q) (share c q y) 0
          ∙ ap₂ difference (sym (e q h)) (add-zero (b q) ∙ sym (f q h))

  -- the reading y comes in and z goes out, each with its own share at each tick
  pub run_swapped : (y z : ℕ) {entering leaving : List ℕ} → AtTicks c (λ q. share c q y) entering
      → AtTicks c (λ q. share c q z) leaving
      → Tabulates new (swapped_sum old entering leaving)
      → ((q : ℕ) → q < c → a' q ≡ a q + share c q y) → ((q : ℕ) → q < c → b' q ≡ b q + share c q z)
      → AtTicks c (λ q. difference (a' q) (b' q)) new
  run_swapped y z {entering} {leaving} in-part out-part each e f =
      ticks_set each (len ∙ sums.len) step
    where
      step : (q : ℕ) → q < c → swapped_sum old entering leaving q ≡ difference (a' q) (b' q)
      step q h =
          rw (sums.holds q h, in-part.holds q h, out-part.holds q h)
          (difference-plus_minus (a q) (b q) (share c q y) (share c q z)
          ∙ ap₂ difference (sym (e q h)) (sym (f q h)))

-- the differences g, from the differences f with what two readings add put on and what two others
-- add taken off
pub advanced-is : {c : ℕ} (y₁ y₂ z₁ z₂ : ℕ) {change in₁ in₂ out₁ out₂ : List ℕ} (f g : ℕ → ℕ)
    → AtTicks c f change → AtTicks c (λ q. share c q y₁) in₁
    → AtTicks c (λ q. share c q y₂) in₂ → AtTicks c (λ q. share c q z₁) out₁
    → AtTicks c (λ q. share c q z₂) out₂
    → ((q : ℕ) → q < c
    → plus_minus (f q) (share c q y₁ + share c q y₂) (share c q z₁ + share c q z₂) ≡ g q)
    → (q : ℕ) → q < c → advanced_change change in₁ in₂ out₁ out₂ q ≡ g q
advanced-is y₁ y₂ z₁ z₂ f g t a b d e is q h =
    rw (t.holds q h, a.holds q h, b.holds q h, d.holds q h, e.holds q h) (is q h)

-- A pass over a column: from the sums f₀ and the differences g, which the code computes as t, the
-- sums f.
module _ {c : ℕ} {sums : List ℕ} {t : ℕ → ℕ} (f₀ g f : ℕ → ℕ) (column : AtTicks c f₀ sums)
    (is : (q : ℕ) → q < c → t q ≡ g q)
    (exact : (q : ℕ) → q < c → (f₀ q + g q) % 2 ^ 32 ≡ f q) where
  -- the code's new sum is f
  increased-is : (q : ℕ) → q < c → increased_sum sums t q ≡ f q
  increased-is q h = rw (column.holds q h, is q h) (exact q h)

  -- where f is below 2 ^ 31, the code's new sums are
  pub pass_signed : AreSigned f c → AreSigned (increased_sum sums t) (length sums)
  pass_signed signed q h =
      let tick : q < c = omega (arith, column.len) in
      rw (increased-is q tick) (signed q tick)

  -- the new sums are f
  pub pass_sums : {new : List ℕ} → Tabulates new (increased_sum sums t) → length new ≡ length sums
      → AtTicks c f new
  pass_sums each len = ticks_set each (len ∙ column.len) increased-is

-- the lowest of the numbers is the lowest of f
pub ticks_lowest : {c n r : ℕ} {f : ℕ → ℕ} {sums : List ℕ} → AtTicks c f sums
    → r ≡ lowest (slice_index sums) n → n ≡ c → r ≡ lowest f c
ticks_lowest {c} {f = f} {sums} t e d =
    e ∙ ap (lowest (slice_index sums)) d ∙ lowest_cong (slice_index sums) f c t.holds

-- and the other way: the lowest of f is that of the numbers
pub ticks_least : {c r : ℕ} {f : ℕ → ℕ} {sums : List ℕ} → AtTicks c f sums → r ≡ lowest f c
    → r ≡ lowest (slice_index sums) (length sums)
ticks_least {c} {f = f} {sums} t e = e ∙ sym (lowest_cong (slice_index sums) f c t.holds)
    ∙ ap (lowest (slice_index sums)) (sym t.len)
