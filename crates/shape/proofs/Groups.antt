-- The tests on a shape, one group after another, as code asks them by `?`.
use Rattle.std.proofs.Common.{ℕ}
use Rattle.refusal.specs.Limits.{most_rows, most_columns, most_mask_rows, most_mask_columns}
use Rattle.refusal.specs.Outcome.{Outcome, range_rules}
use Rattle.refusal.proofs.Outcome.{AnswersInRow, in_row}
use Rattle.shape.specs.Rules.{side_rules}

module _ {a both : Outcome Unit} where
  -- the rows, then the columns
  pub size_in_row : (m n : ℕ)
      → AnswersInRow a both (range_rules 2 0 most_rows m) (range_rules 2 0 most_columns n)
  size_in_row m n = in_row _ _

  -- the rows of the mask, then its columns
  pub mask_in_row : (r t : ℕ)
      → AnswersInRow a both (side_rules most_mask_rows r) (side_rules most_mask_columns t)
  mask_in_row r t = in_row _ _
