-- SPECIFICATION, "Guarantees", of the phase that a live window answers with, over the last t
-- readings.
use Rattle.std.proofs.Common.{ℕ, ◌+◌, ◌*◌, ◌<◌, ◌≡◌, true, List, [], length}
use Rattle.lists.specs.Members.{In, Each}
use Rattle.cycle.specs.Silence.{silent, is_reading, heard}
use Rattle.median.specs.Closest.{NoCloser, EqualIsReading}
use Rattle.median.proofs.Median.{of_none, of_closest, of_heard, of_equal}
use Rattle.live.specs.Window.{latest_of, live_phase}
use Rattle.live.proofs.Latest.{latest-reads, middle_in}

module _ (c t : ℕ) (history : List ℕ) (some : 0 < t)
    (good : Each (λ x. is_reading c x ≡ true) history) where
  -- no point of the cycle is closer to what is heard
  pub live_closest : 0 < length (heard (latest_of t history))
      → NoCloser c (heard (latest_of t history)) (live_phase c t history)
  unfolding live_phase
  live_closest = of_closest c _ _ (latest-reads c t history good) (middle_in t history some)

  -- where an odd number is heard, a point that is as close is one of the heard readings
  pub live_equal : (m : ℕ) → length (heard (latest_of t history)) ≡ 2 * m + 1
      → EqualIsReading c (heard (latest_of t history)) (live_phase c t history)
  unfolding live_phase
  live_equal = of_equal c _ _ (latest-reads c t history good) (middle_in t history some)

  -- the phase is one of the heard readings
  pub live_heard : 0 < length (heard (latest_of t history))
      → In (live_phase c t history) (heard (latest_of t history))
  unfolding live_phase
  live_heard = of_heard c _ _ (latest-reads c t history good) (middle_in t history some)

  -- where none is heard, it is silent
  pub live_none : heard (latest_of t history) ≡ [] → live_phase c t history ≡ silent
  unfolding live_phase
  live_none = of_none c _ _ (latest-reads c t history good) (middle_in t history some)
