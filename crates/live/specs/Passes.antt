-- What each pass over a live window's arrays leaves at each place and finds, whatever numbers they
-- hold. Internal to the live window: SPECIFICATION, "Live window".
use Rattle.std.specs.Prelude.{◌≡◌, ℕ, ◌+◌, ◌-◌, ◌*◌, ◌%◌, ◌^◌, ◌<◌, ◌≤◌, min, true, if◌then◌else◌}
use Rattle.std.specs.Prelude.{List, length, nat_lt, slice_index}
use Rattle.lists.specs.Members.{Each}
use Rattle.lists.specs.Total.{total_from}
use Rattle.refusal.specs.Limits.{live_cycle, live_length}
use Rattle.cycle.specs.Distance.{distance}
use Rattle.cycle.specs.Silence.{silent, is_heard, is_reading}
use Rattle.shape.specs.Rules.{reach}
use Rattle.median.specs.Sum.{shares}
use Rattle.median.specs.Median.{centre_heard}
use Rattle.sums.specs.Memory.{no_sum, lowest}
use Rattle.median.specs.Ranks.{rank_of, phase_by}

-- the reading one place behind place k
abbrev pub reading_behind : List ℕ → ℕ → ℕ
reading_behind readings k = slice_index readings (k + 1)

-- its distance to x in ticks, by the formula, whatever the two numbers are
abbrev pub distance_to : ℕ → ℕ → List ℕ → ℕ → ℕ
distance_to c x readings k = distance c (reading_behind readings k) x

-- the sum that comes to place k: with the distance to the newest reading x added and that to the
-- oldest taken off, modulo 2 ^ 16
unfoldable pub slid_sum : ℕ → ℕ → List ℕ → List ℕ → ℕ → ℕ
slid_sum c x readings sums k = (slice_index sums (k + 1) + distance_to c x readings k
    + (2 ^ 16 - distance_to c (slice_index readings 0) readings k)) % 2 ^ 16

-- the sum at the newest reading x: the distances to the n readings that stay, modulo 2 ^ 16
unfoldable pub distances_to : ℕ → ℕ → List ℕ → ℕ → ℕ
distances_to c x readings n = total_from (distance_to c x readings) 0 n % 2 ^ 16

-- the last place of a window
abbrev pub last_of : List ℕ → ℕ
last_of readings = length readings - 1

-- the reading at place k once x has entered: x at the last place
abbrev pub entered_reading : ℕ → List ℕ → ℕ → ℕ
entered_reading x readings k =
    (if nat_lt k (last_of readings) then reading_behind readings k else x)

-- its sum
abbrev pub entered_sum : ℕ → ℕ → List ℕ → List ℕ → ℕ → ℕ
entered_sum c x readings sums k =
    (if nat_lt k (last_of readings) then slid_sum c x readings sums k else distances_to c x readings
    (last_of readings))

-- a window that may be searched for its phase: a cycle and a number of readings that a live window
-- takes, and a sum for each reading
pub record IsSearchable (c : ℕ) (readings sums : List ℕ) : Type 0 where
  pub cycle_some : 0 < c
  pub cycle_fits : c ≤ live_cycle
  pub some : 0 < length readings
  pub fits : length readings ≤ live_length
  pub sums_alike : length sums ≡ length readings

-- each reading is a tick or silent, and its sum is that of its distances in ticks to all readings
pub record HasSums (c : ℕ) (readings sums : List ℕ) : Type 0 where
  pub readings_good : Each (λ x. is_reading c x ≡ true) readings
  pub sums_true : (k : ℕ) → k < length readings
      → slice_index sums k ≡ shares c (slice_index readings k) readings

-- the middle reading
abbrev pub middle_of : List ℕ → ℕ
middle_of readings = slice_index readings (reach (length readings))

-- the centre: the middle reading, or the first heard one where that is silent
abbrev pub centre_in : List ℕ → ℕ
centre_in readings = centre_heard (middle_of readings) readings

-- a tick as it is; silent in place of a number that is none
unfoldable pub tick_or_silent : ℕ → ℕ → ℕ
tick_or_silent c q = (if nat_lt q c then q else silent)

-- the key of a reading q from the centre a: its sum modulo 2 ^ 15, and behind it its rank; a silent
-- reading has none
unfoldable pub key_of : ℕ → ℕ → ℕ → ℕ → ℕ
key_of c a q sum = (if is_heard q then sum % 2 ^ 15 * 2 ^ 16 + rank_of c a q else no_sum)

-- the key of the reading at place k
abbrev pub key_at : ℕ → ℕ → List ℕ → List ℕ → ℕ → ℕ
key_at c a readings sums k = key_of c a (slice_index readings k) (slice_index sums k)

-- the phase from the centre a: the tick whose rank is in the least key; silent if a is
unfoldable pub phase_from : ℕ → ℕ → List ℕ → List ℕ → ℕ
phase_from c a readings sums =
    phase_by c a (min (lowest (key_at c a readings sums) (length readings) % 2 ^ 16) c)

-- the phase of a window, whatever numbers its arrays hold
abbrev pub phase_in : ℕ → List ℕ → List ℕ → ℕ
phase_in c readings sums = phase_from c (tick_or_silent c (centre_in readings)) readings sums
