-- The list's entry for two readings in lines (SPECIFICATION, Distances on 360 ticks). The passes
-- measure by the formula; `distances_listed`, `distances_to_two_listed` and `steps-listed` say that
-- on 360 ticks they leave what the list gives.
use Rattle.std.specs.Prelude.{◌≡◌, ℕ, ◌<◌, true, List, slice_index}
use Rattle.cycle.specs.Distance.{gap}
use Rattle.cycle.specs.Silence.{is_reading}
use Rattle.cycle.specs.List.{listed_cycle, entry}

-- the first n numbers of a line are readings of the list's cycle
abbrev pub AreListedReadings : List ℕ → ℕ → Type 0
AreListedReadings line n = (j : ℕ) → j < n → is_reading listed_cycle (slice_index line j) ≡ true

-- the list's entry at the gap between the readings at place j of a line and of a row
abbrev pub entry_between : List ℕ → List ℕ → ℕ → ℕ
entry_between own row j = entry (gap (slice_index own j) (slice_index row j))
