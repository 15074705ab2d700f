-- The level engine's table of distances (SPECIFICATION, "Distance"), and its part for a reading.
-- Internal to the engine.
use Rattle.std.specs.Prelude.{ℕ, ◌+◌, ◌*◌, ◌%◌, ◌^◌, ◌≤◌, ◌<◌, ◌≡◌, List, length, slice_index}
use Rattle.refusal.specs.Limits.{level_cycle}
use Rattle.cycle.specs.Distance.{distance}
use Rattle.median.specs.Sum.{share}

-- three rounds of the longest cycle that the engine takes
abbrev pub table_length : ℕ
table_length = 3 * level_cycle

-- two rounds of the distances to tick 0, so that those from all ticks to a heard reading y are the
-- c numbers from place c - y on; then zeros, for a silent reading (SPECIFICATION, "Silence")
pub record IsTable (c : ℕ) (table : List ℕ) : Type 0 where
  pub len : length table ≡ table_length
  pub holds : (k : ℕ) → k < 2 * c → slice_index table k ≡ distance c (k % c) 0
  pub zeros : (k : ℕ) → 2 * c ≤ k → slice_index table k ≡ 0
  pub small : (k : ℕ) → slice_index table k < 2 ^ 16

-- the c numbers from place `start` on lie within the table, and are what the reading y adds to the
-- sum at each tick
pub record IsPart (c : ℕ) (table : List ℕ) (y start : ℕ) : Type 0 where
  pub room : start + c ≤ length table
  pub shares : (q : ℕ) → q < c → slice_index table (start + q) ≡ share c q y

-- so it is in every table of the cycle
abbrev pub IsPartOf : ℕ → ℕ → ℕ → Type 0
IsPartOf c y start = (table : List ℕ) → IsTable c table → IsPart c table y start
