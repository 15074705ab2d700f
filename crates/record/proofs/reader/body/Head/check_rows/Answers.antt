-- The tests of row i come first: they refuse, or those from the next row on say the rest.
use Rattle.std.proofs.Common.{◌≡◌, ℕ, ◌+◌, ◌-◌, ◌<◌, List, ◌++◌, sym, ap, ◌∙◌, arith, rules}
use Rattle.lists.specs.Joined.{concat_from}
use Rattle.lists.proofs.Joined.{concat_from-first, concat_from-none}
use Rattle.refusal.specs.Outcome.{first_due}
use Rattle.refusal.proofs.Outcome.{outcome_of, handed_on, passed_clear, after_clear}
use Rattle.record_format.specs.Reading.{rows_in, row_field_rules}
use Rattle.record.proofs.reader.body.Head.check_rows.Goals as goal

-- the tests from row i on begin with those of row i
from : (b : List ℕ) (i : ℕ) → i < rows_in b
    → outcome_of (concat_from (row_field_rules b) i (rows_in b - i))
    ≡ outcome_of
    (row_field_rules b i ++ concat_from (row_field_rules b) (i + 1) (rows_in b - (i + 1)))
from b i h = ap outcome_of (concat_from-first (row_field_rules b) i (rows_in b) h)

pub returns-in_err-check_row : goal.returns-in_err-check_row
returns-in_err-check_row c =
    let b = c.args.self.now.bytes.now in
    let i = c.loop-i.i in
    handed_on (row_field_rules b i) tt (concat_from (row_field_rules b) (i + 1)
    (rows_in b - (i + 1))) c.in_err-check_row.ensures (search rules)
    ∙ sym (c.loop-i.invariant ∙ from b i (omega (arith, c.rows-i-end.ensures)))

pub loop-i-preserved : goal.loop-i-preserved
loop-i-preserved c =
    let b = c.args.self.now.bytes.now in
    let i = c.loop-i.i in
    let rest = concat_from (row_field_rules b) (i + 1) (rows_in b - (i + 1)) in
    c.loop-i.invariant ∙ from b i (omega (arith, c.rows-i-end.ensures)) ∙ after_clear tt
    (row_field_rules b i) rest (passed_clear (row_field_rules b i) c.in_ok-check_row.ensures)

pub returns : goal.returns
unfolding first_due concat_from
returns c =
    let b = c.args.self.now.bytes.now in
    sym (c.loop-i.invariant ∙ ap outcome_of (concat_from-none (row_field_rules b) c.loop-i.i
    (rows_in b) (omega (arith, c.rows-i-end.ensures))))
