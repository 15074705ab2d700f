-- The tests of a filter call, one group after another, as code asks them by `?`.
use Rattle.std.proofs.Common.{ℕ, List, [], ◌∷◌, ◌++◌}
use Rattle.refusal.specs.Outcome.{Outcome}
use Rattle.refusal.proofs.Outcome.{AnswersInRow, in_row}
use Rattle.cycle.specs.Calls.{readings_rule}
use Rattle.shape.specs.Rules.{rows_rules, input_rule, buffer_rule, work_rule}
use Rattle.filter.specs.Calls.{memory_rules}

module _ {a both : Outcome Unit} where
  -- the output, then the work memory
  pub memory_in_row : (phases room output work : ℕ)
      → AnswersInRow a both (buffer_rule phases output ∷ []) (work_rule room work ∷ [])
  memory_in_row phases room output work = in_row _ _

  -- lent memory, then the readings
  pub readings_in_row : (phases room output work c : ℕ) (image : List ℕ)
      → AnswersInRow a both (memory_rules phases room output work) (readings_rule c image ∷ [])
  readings_in_row phases room output work c image = in_row _ _

  -- the length of the input, then lent memory and readings
  pub input_in_row : (n size phases room output work c : ℕ) (image : List ℕ)
      → AnswersInRow a both (input_rule n size ∷ [])
      (memory_rules phases room output work ++ (readings_rule c image ∷ []))
  input_in_row n size phases room output work c image = in_row _ _

  -- the rows, then the input, lent memory and readings
  pub rows_in_row : (m first end n size phases room output work c : ℕ) (image : List ℕ)
      → AnswersInRow a both (rows_rules m first end) (input_rule n size
      ∷ (memory_rules phases room output work ++ (readings_rule c image ∷ [])))
  rows_in_row m first end n size phases room output work c image = in_row _ _
