-- Weighing: readings are looked at one after the other, and the lowest pair of a sum and a rank so
-- far is kept (SPECIFICATION, "Chosen phase"). Internal to the engines and the live window.
use Rattle.std.specs.Prelude.{◌≡◌, ℕ, ◌+◌, ◌*◌, ◌≤◌, ◌⊎◌, Bool, ◌&&◌, ◌||◌, ◌==◌, nat_lt, List, []}
use Rattle.lists.specs.Members.{In}
use Rattle.sums.specs.Memory.{no_sum}
use Rattle.median.specs.Choice.{rank, key}

-- a sum with its rank is lower than the pair that is kept: by the sum, or by the rank where the
-- sums are equal
abbrev pub is_lower_pair : ℕ → ℕ → ℕ → ℕ → Bool
is_lower_pair sum rank least nearest = nat_lt sum least || (sum == least && nat_lt rank nearest)

-- some reading of zs has the sum `least` and, from the centre a, the rank `nearest`
abbrev pub IsFound : ℕ → ℕ → (ℕ → ℕ) → List ℕ → ℕ → ℕ → Type 0
IsFound c a sum zs least nearest = (q : ℕ) × In q zs × (least ≡ sum q) × (nearest ≡ rank c a q)

-- there is no reading, and the pair that is kept is no sum with the rank 0
abbrev pub IsUnweighed : List ℕ → ℕ → ℕ → Type 0
IsUnweighed zs least nearest = (zs ≡ []) × (least ≡ no_sum) × (nearest ≡ 0)

-- the readings zs are weighed: `least` and `nearest` are the lowest pair of a sum and a rank from
-- the centre a
pub record IsWeighed (c a : ℕ) (sum : ℕ → ℕ) (zs : List ℕ) (least nearest : ℕ) : Type 0 where
  pub low : (q : ℕ) → In q zs → least * (2 * c) + nearest ≤ key c a sum q
  pub nearest_cycle : nearest ≤ c
  pub found : IsUnweighed zs least nearest ⊎ IsFound c a sum zs least nearest
