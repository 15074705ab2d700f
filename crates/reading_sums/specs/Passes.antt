-- What the passes over lines of readings leave at each place: what readings add to sums
-- (SPECIFICATION, "Sum"). Internal to the reading engine.
use Rattle.std.specs.Prelude.{◌≡◌, ℕ, ◌+◌, ◌-◌, ◌/◌, ◌<◌, ◌≤◌, Bool, true, List, length}
use Rattle.std.specs.Prelude.{slice_index, if◌then◌else◌}
use Rattle.lists.specs.Difference.{plus_minus}
use Rattle.cycle.specs.Distance.{distance}
use Rattle.cycle.specs.Silence.{is_heard}
use Rattle.median.specs.Sum.{share}
use Rattle.sums.specs.Memory.{no_sum}

-- the row is at least as long as the line, and where `plain` says so the formula of the distance
-- gives, at each place, what the reading of the line gains by that of the row
pub record IsMeasurable (plain : Bool) (c : ℕ) (own row : List ℕ) : Type 0 where
  pub row_long : length own ≤ length row
  pub plainly : plain ≡ true → (j : ℕ) → j < length own
      → distance c (slice_index own j) (slice_index row j)
      ≡ share c (slice_index own j) (slice_index row j)

-- what the reading at place p of a line gains by the one at place k of a row: their distance, or 0
-- where one is silent
abbrev pub of_line : ℕ → List ℕ → List ℕ → ℕ → ℕ → ℕ
of_line c own row p k = share c (slice_index own p) (slice_index row k)

-- what the reading at place j of a line gains by the one at place j of a row
abbrev pub between : ℕ → List ℕ → List ℕ → ℕ → ℕ
between c own row j = of_line c own row j j

-- what it gains by those of two rows together
abbrev pub between_two : ℕ → List ℕ → List ℕ → List ℕ → ℕ → ℕ
between_two c own row other j = between c own row j + between c own other j

-- a step: what it gains by the row that comes in less what it loses by the one that goes out, and
-- half a cycle more, so that it is never below 0
abbrev pub step_at : ℕ → List ℕ → List ℕ → List ℕ → ℕ → ℕ
step_at c own entering leaving j = c / 2 + between c own entering j - between c own leaving j

-- a change with its step added and half a cycle taken off
abbrev pub moved_change : List ℕ → List ℕ → ℕ → ℕ → ℕ
moved_change changes steps half j = plus_minus (slice_index changes j) (slice_index steps j) half

-- what the sums at a reading q begin at: 0, or no sum if it is silent. A silent reading gains
-- nothing, so that its numbers stay above every sum (SPECIFICATION, "Silence").
unfoldable pub mark : ℕ → ℕ
mark q = if is_heard q then 0 else no_sum

-- the same for the reading at place p of a line
abbrev pub marks : List ℕ → ℕ → ℕ
marks own p = mark (slice_index own p)
