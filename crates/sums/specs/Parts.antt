-- What the passes over sums leave at place q, modulo 2 ^ 32; `entering` and `leaving` hold what the
-- readings that come in and go out add to each sum. Internal to the engines.
use Rattle.std.specs.Prelude.{ℕ, ◌+◌, ◌%◌, ◌^◌, List, slice_index}
use Rattle.lists.specs.Difference.{plus_minus}

-- the sum with what enters added
abbrev pub added_sum : List ℕ → List ℕ → ℕ → ℕ
added_sum sums entering q = plus_minus (slice_index sums q) (slice_index entering q) 0

-- the sum with what enters added and what leaves taken off
abbrev pub swapped_sum : List ℕ → List ℕ → List ℕ → ℕ → ℕ
swapped_sum sums entering leaving q =
    plus_minus (slice_index sums q) (slice_index entering q) (slice_index leaving q)

-- the difference between two rows, with two numbers added and two taken off
abbrev pub advanced_change : List ℕ → List ℕ → List ℕ → List ℕ → List ℕ → ℕ → ℕ
advanced_change change in₁ in₂ out₁ out₂ q =
    plus_minus (slice_index change q) (slice_index in₁ q + slice_index in₂ q)
    (slice_index out₁ q + slice_index out₂ q)

-- the sum with f q added
abbrev pub increased_sum : List ℕ → (ℕ → ℕ) → ℕ → ℕ
increased_sum sums f q = (slice_index sums q + f q) % 2 ^ 32

-- 0 at every place
abbrev pub zeros : ℕ → ℕ
zeros q = 0

-- the number of w that stands q places after `start`
abbrev pub number_from : List ℕ → ℕ → ℕ → ℕ
number_from w start q = slice_index w (start + q)
