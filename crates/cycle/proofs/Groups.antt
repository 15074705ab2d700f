-- The tests of the calls, one group after another, as code asks them by `?`.
use Rattle.std.proofs.Common.{ℕ, List, [], ◌∷◌, ◌++◌, length}
use Rattle.refusal.specs.Limits.{longest_cycle}
use Rattle.refusal.specs.Outcome.{Outcome}
use Rattle.refusal.proofs.Outcome.{AnswersInRow, in_row}
use Rattle.cycle.specs.Calls.{cycle_rules, tick_rule, pair_rules, length_rules, readings_rule}

module _ (c : ℕ) {a both : Outcome Unit} where
  -- the two ticks of distance and step
  pub ticks_in_row : (x y : ℕ) → AnswersInRow a both (tick_rule c x 0 ∷ []) (tick_rule c y 1 ∷ [])
  ticks_in_row x y = in_row _ _

  -- their cycle, then the ticks
  pub pair_in_row : (x y : ℕ)
      → AnswersInRow a both (cycle_rules longest_cycle c) (tick_rule c x 0 ∷ tick_rule c y 1 ∷ [])
  pair_in_row x y = in_row _ _

  -- tick and start of slot, then its width
  pub slot_in_row : (p s w : ℕ) → AnswersInRow a both (pair_rules c p s) (tick_rule c w 2 ∷ [])
  slot_in_row p s w = in_row _ _

  -- the length of the row of drift, then its readings
  pub length_in_row : (row : List ℕ)
      → AnswersInRow a both (length_rules (length row)) (readings_rule c row ∷ [])
  length_in_row row = in_row _ _

  -- the cycle of drift, then its row
  pub drift_in_row : (row : List ℕ)
      → AnswersInRow a both (cycle_rules longest_cycle c)
      (length_rules (length row) ++ (readings_rule c row ∷ []))
  drift_in_row row = in_row _ _
