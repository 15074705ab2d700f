-- What `?` hands on of the reader's tests, whose answer is a record that has passed them.
use Rattle.std.proofs.Common.{◌≡◌, ap, ◌∙◌}
use Rattle.std.specs.Prelude.{Result, Err}
use Rattle.refusal.specs.declared.Refusal.{Refusal}
use Rattle.refusal.specs.Outcome.{Outcome, refusal}
use Rattle.shape.specs.declared.Shape.{Shape}
use Rattle.record.specs.declared.reader.passed.Record.{Record}
use Rattle.record.specs.Calls.{outcome_shape}

-- a refusal that `?` hands on is the answer
pub handed_shape : {f : Refusal} {r : Result Record Refusal} {o : Outcome Shape} → refusal f ≡ o
    → r ≡ Err f → outcome_shape r ≡ o
handed_shape answer-is e = ap outcome_shape e ∙ answer-is
