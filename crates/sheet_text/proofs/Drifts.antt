-- The drift of a row whose tests are clear is answered by its number.
use Rattle.std.proofs.Common.{◌≡◌, ℕ, ℤ, List, sym, ◌∙◌}
use Rattle.std.specs.Prelude.{Result, Ok, Err}
use Rattle.refusal.specs.declared.Refusal.{Refusal}
use Rattle.refusal.specs.Outcome.{IsClear, outcome}
use Rattle.refusal.proofs.Outcome.{clear_accepted, not_refused}
use Rattle.cycle.specs.Step.{drift}
use Rattle.cycle.specs.Calls.{row_rules, drift_due}

-- no test of the row is due, so nothing is refused
pub drift_answered : (c : ℕ) (row : List ℕ) (r : Result ℤ Refusal) → IsClear (row_rules c row)
    → outcome r ≡ drift_due c row → r ≡ Ok (drift c row)
unfolding drift_due
drift_answered c row (Ok d) clear answer-is =
    cc (clear_accepted (drift c row) (row_rules c row) clear)
drift_answered c row (Err f) clear answer-is =
    not_refused (sym (answer-is ∙ clear_accepted (drift c row) (row_rules c row) clear))
