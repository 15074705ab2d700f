-- One row more is one line more, and the length of all lines fits 64 bits.
use Rattle.std.proofs.Common.{◌≡◌, ◌+◌, ◌-◌, ◌*◌, rules, arith}
use Rattle.lists.specs.Joined.{concat_from}
use Rattle.lists.proofs.Joined.{concat_from_more}
use Rattle.shape.specs.Rules.{row_of}
use Rattle.sheet_text.proofs.TextLaws.{appended_none, appended_more, appended_laid}
use Rattle.sheet_text.specs.Lines.{row_line, image_lines}
use Rattle.sheet_text.proofs.Lengths.{lines_most}
use Rattle.sheet_text.proofs.write_lines.Goals as goal

pub loop-i-init : goal.loop-i-init
unfolding concat_from
loop-i-init c = appended_none

pub loop-i-preserved : goal.loop-i-preserved
loop-i-preserved c =
    let a = c.args in
    let i = c.loop-i.i in
    let n = a.shape.columns in
    let width : i * n + n - i * n ≡ n = omega arith in
    rw (concat_from_more (λ k. row_line a.shape.cycle k (row_of n a.phases.now k)) i)
    (appended_more c.loop-i.invariant (rw width at c.append_row.ensures))

pub returns : goal.returns
unfolding image_lines
returns c =
    let a = c.args in
    let last : c.loop-i.i ≡ a.shape.rows = omega arith in
    let begun = c.new-text.ensures in
    appended_laid (appended_more c.append_head.ensures
    (rw last at c.loop-i.invariant)) begun.untouched begun.empty
    (lines_most a.shape a.phases.now c.requires.rows_fit c.requires.columns_fit) c.length.ensures
    (search rules)
