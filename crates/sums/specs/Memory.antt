-- What lent memory holds, part by part, while an engine or the live window works in it. Internal: a
-- call's contract says what is left in the end (SPECIFICATION, "Lent memory").
use Rattle.std.specs.Prelude.{◌≡◌, ℕ, zero, suc, ◌+◌, ◌-◌, ◌^◌, ◌<◌, ◌≤◌, min, List, length}
use Rattle.std.specs.Prelude.{slice_index, EachIndex}

-- the numbers of w are f 0, f 1, ..
abbrev pub Tabulates : List ℕ → (ℕ → ℕ) → Type 0
Tabulates w f = EachIndex w (λ q. slice_index w q ≡ f q)

-- a pass has come to place n: the first n numbers are f 0, f 1, .., and the others are those of w₀
pub record IsBegun (w₀ w : List ℕ) (n : ℕ) (f : ℕ → ℕ) : Type 0 where
  pub len : length w ≡ length w₀
  pub done : (q : ℕ) → q < n → slice_index w q ≡ f q
  pub left : (q : ℕ) → n ≤ q → slice_index w q ≡ slice_index w₀ q

-- the n numbers from place base on are f 0, f 1, ..
abbrev pub Holds : List ℕ → ℕ → ℕ → (ℕ → ℕ) → Type 0
Holds w base n f = (q : ℕ) → q < n → slice_index w (base + q) ≡ f q

-- w is w₀ but for the n numbers from place base on, which are f 0, f 1, ..
pub record Changed (w₀ w : List ℕ) (base n : ℕ) (f : ℕ → ℕ) : Type 0 where
  pub len : length w ≡ length w₀
  pub before : (k : ℕ) → k < base → slice_index w k ≡ slice_index w₀ k
  pub holds : Holds w base n f
  pub after : (k : ℕ) → base + n ≤ k → slice_index w k ≡ slice_index w₀ k

-- w is w₀ outside the n numbers from place base on, whatever those are
pub record Outside (w₀ w : List ℕ) (base n : ℕ) : Type 0 where
  pub len : length w ≡ length w₀
  pub before : (k : ℕ) → k < base → slice_index w k ≡ slice_index w₀ k
  pub after : (k : ℕ) → base + n ≤ k → slice_index w k ≡ slice_index w₀ k

-- f 0 to f (n - 1) are below 2 ^ 31, so that they compare alike as signed numbers of 32 bits
abbrev pub AreSigned : (ℕ → ℕ) → ℕ → Type 0
AreSigned f n = (q : ℕ) → q < n → f q < 2 ^ 31

-- no sum: the highest signed number of 32 bits, above every sum (`shares-small` of window)
abbrev pub no_sum : ℕ
no_sum = 2 ^ 31 - 1

-- the lowest of f 0 to f (n - 1), or no sum where none is below it
unfoldable pub lowest : (ℕ → ℕ) → ℕ → ℕ
lowest f zero = no_sum
lowest f (suc n) = min (f n) (lowest f n)
