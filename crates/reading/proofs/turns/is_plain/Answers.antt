-- The cycle is short, or the three padded rows are looked at whole.
use Prim.Native.Nat.{ℕ, ◌+◌, ◌-◌}
use mathlib.Core.Logic.{inr}
use mathlib.Core.List.{List}
use native.Mathlib.Omega.{arith}
use lib.ListN.{length, take}
use Rattle.std.specs.Cmp.{first_so, second_so}
use Rattle.lines.specs.Lines.{IsLine, AllHeard, padded_length}
use Rattle.lines.proofs.Standing.{heard_front}
use Rattle.reading_sums.proofs.Sums.{sizes, line_room}
use Rattle.reading.proofs.turns.is_plain.Goals as goal
use Rattle.reading.proofs.turns.is_plain.Goals.{Start}

-- where all readings that were looked at are heard, all of the padded row are
whole : (s : Start) (line : List ℕ) → IsLine line → let shape =
    s.args.mask_row.now.row.image.shape in
    let n = shape.columns + shape.mask_columns - 1 in AllHeard (take n line) (length (take n line))
    → AllHeard line (padded_length shape)
whole s line long h j l =
    let image = s.args.mask_row.now.row.image in
    heard_front (image.shape.columns + image.shape.mask_columns - 1) line h
    (omega (arith, line_room image.shape image.ready.shape, long)) j
    (omega (arith, (sizes image.shape image.ready.shape).mask_columns_odd))

pub returns-else-is_short : goal.returns-else-is_short
returns-else-is_short c = λ e.
    let s = (goal.at.returns-else-is_short c).Start in
    let a = c.args.mask_row.now in
    let both = first_so _ c.all_heard-else-is_short-2.result e in
    let own = whole s a.own.now a.line.len
    (c.all_heard.ensures (first_so c.all_heard.result _ both)) in
    let entering = whole s a.row.last.now a.row.last_row.len
    (c.all_heard-else-is_short.ensures (second_so c.all_heard.result _ both)) in
    let leaving = whole s c.args.leaving.now c.told-leaving
    (c.all_heard-else-is_short-2.ensures (second_so _ _ e)) in
    (inr (own, entering), inr (own, leaving))
