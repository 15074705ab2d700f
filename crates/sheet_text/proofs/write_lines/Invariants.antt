-- The lines of the rows so far are put.
use Rattle.lists.specs.Joined.{concat_from}
use Rattle.shape.specs.Rules.{row_of}
use Rattle.sheet_text.specs.Text.{AppendsText}
use Rattle.sheet_text.specs.Lines.{row_line}
use Rattle.sheet_text.proofs.write_lines.Given as goal

abbrev pub invariant-loop-i : goal.invariant-loop-i
invariant-loop-i l = AppendsText l.initial.text
    (concat_from (λ k. row_line l.shape.cycle k (row_of l.shape.columns l.phases k)) 0 l.i) l.text
