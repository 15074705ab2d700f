-- The tests of a live window, one group after another, as code asks them by `?`.
use Rattle.std.proofs.Common.{ℕ, [], ◌∷◌}
use Rattle.refusal.specs.Limits.{live_cycle, live_length}
use Rattle.refusal.specs.Outcome.{Outcome}
use Rattle.refusal.proofs.Outcome.{AnswersInRow, in_row}
use Rattle.cycle.specs.Calls.{cycle_rules, reading_rule}
use Rattle.shape.specs.Rules.{side_rules}
use Rattle.live.specs.Calls.{window_rules}

module _ {a both : Outcome Unit} where
  -- the cycle, then the length
  pub window_in_row : (c t : ℕ)
      → AnswersInRow a both (cycle_rules live_cycle c) (side_rules live_length t)
  window_in_row c t = in_row _ _

  -- the window, then the reading
  pub push_in_row : (c t x : ℕ)
      → AnswersInRow a both (window_rules c t) (reading_rule c x 0 ∷ [])
  push_in_row c t x = in_row _ _
