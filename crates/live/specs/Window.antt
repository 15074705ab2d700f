-- What a live window holds after the readings that it has accepted, its history, and what the last
-- of them is answered: SPECIFICATION, "Live window". Of the readings the last t count.
use Rattle.std.specs.Prelude.{ℕ, min, if◌then◌else◌, List, ◌++◌, nat_lt, length, slice_index_or}
use Rattle.std.specs.Prelude.{drop, replicate}
use Rattle.lists.specs.Tabulate.{tabulate}
use Rattle.refusal.specs.Limits.{live_length}
use Rattle.cycle.specs.Silence.{silent, is_heard}
use Rattle.shape.specs.Rules.{reach}
use Rattle.median.specs.Sum.{shares}
use Rattle.median.specs.Median.{phase_of}
use Rattle.live.specs.declared.LiveWindow.{LiveWindow}
use Rattle.live.specs.declared.Live.{Live}
use Rattle.live.specs.declared.Live.TheVariants.{Filling, Phase, Silent}

-- the last t readings, oldest first; as many silent ones stand before a shorter history as it lacks
unfoldable pub latest_of : ℕ → List ℕ → List ℕ
latest_of t history = drop (length history) (replicate t silent ++ history)

-- the reading at place k of the window; silent behind the last one
unfoldable pub reading_at : ℕ → List ℕ → ℕ → ℕ
reading_at t history k = slice_index_or (latest_of t history) k silent

-- the median of the last t readings, with the middle one as the centre
unfoldable pub live_phase : ℕ → ℕ → List ℕ → ℕ
live_phase c t history = phase_of c (reading_at t history (reach t)) (latest_of t history)

-- a phase as an answer: the tick, or that none was heard
unfoldable pub result_of : ℕ → Live
result_of phase = (if is_heard phase then Phase phase else Silent)

-- the answer where so many readings have come and the last t have this phase, whatever the two are
abbrev pub result_by : ℕ → ℕ → ℕ → Live
result_by t filled phase = (if nat_lt filled t then Filling else result_of phase)

-- what the last reading of a history is answered: filling while there are fewer than t
unfoldable pub result_after : ℕ → ℕ → List ℕ → Live
result_after c t history = result_by t (length history) (live_phase c t history)

-- the sum of the distances in ticks from the reading at place k to the last t
abbrev pub sum_of : ℕ → ℕ → List ℕ → ℕ → ℕ
sum_of c t history k = shares c (reading_at t history k) (latest_of t history)

-- the array of readings, with as many places as the longest window
abbrev pub readings_of : ℕ → List ℕ → List ℕ
readings_of t history = tabulate (reading_at t history) 0 live_length

-- the array of sums
abbrev pub sums_of : ℕ → ℕ → List ℕ → List ℕ
sums_of c t history = tabulate (sum_of c t history) 0 live_length

-- a window by its five members
abbrev pub window_of : ℕ → ℕ → ℕ → List ℕ → List ℕ → LiveWindow
window_of c t filled readings sums =
    record { cycle = c; length = t; filled = filled; readings = readings; sums = sums }

-- the window after a history; the fresh one after none
unfoldable pub live_after : ℕ → ℕ → List ℕ → LiveWindow
live_after c t history =
    window_of c t (min (length history) t) (readings_of t history) (sums_of c t history)
