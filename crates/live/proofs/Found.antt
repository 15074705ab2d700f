-- A window with a history holds the true sums, so that the phase that is found in its arrays is the
-- median of the last t readings.
use Rattle.std.proofs.Common.{ℕ, ◌<◌, ◌≡◌, true, List, arith, length, get_or}
use Rattle.lists.specs.Members.{Each}
use Rattle.lists.proofs.Tabulate.{length-tabulate}
use Rattle.cycle.specs.Silence.{is_reading}
use Rattle.shape.specs.Rules.{reach}
use Rattle.median.specs.Sum.{shares}
use Rattle.median.specs.Median.{phase_of}
use Rattle.live.specs.Window.{reading_at, sum_of, live_phase}
use Rattle.live.specs.Passes.{HasSums, middle_of}
use Rattle.live.proofs.Latest.{latest-is, latest-reads}
use Rattle.live.proofs.Sliding.{place-holds, window_readings, window_sums}

module _ (c t : ℕ) (history : List ℕ) where
  -- a window has t places
  long : length (window_readings t history) ≡ t
  long = length-tabulate (reading_at t history) 0 t

  -- its readings are readings, and each sum is that of the reading at its place
  pub history-sums : Each (λ z. is_reading c z ≡ true) history
      → HasSums c (window_readings t history) (window_sums c t history)
  history-sums good = record {
    readings_good = rw (latest-is t history) at (latest-reads c t history good);
    sums_true = λ k h. at_place k (omega (arith, long));
  }
    where
      at_place : (k : ℕ) → k < t
          → get_or (window_sums c t history) k 0
          ≡ shares c (get_or (window_readings t history) k 0) (window_readings t history)
      at_place k h =
          rw (
            place-holds (sum_of c t history) t k h,
            place-holds (reading_at t history) t k h,
            ← (latest-is t history),
          )

  -- the median of what it holds is that of the last t readings
  pub history-phase : 0 < t → phase_of c (middle_of (window_readings t history))
      (window_readings t history) ≡ live_phase c t history
  unfolding live_phase
  history-phase some = rw
      (long, place-holds (reading_at t history) t (reach t) (omega arith), ← (latest-is t history))
