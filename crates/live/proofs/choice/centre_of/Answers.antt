-- A heard middle reading is the first heard of itself and the window; behind a silent one it is the
-- window's.
use Rattle.std.proofs.Common.{length, get_or, sym, ◌∙◌}
use Rattle.cycle.proofs.SilenceLaws.{not_silent, first-heard, first-behind}
use Rattle.shape.specs.Rules.{reach}
use Rattle.live.proofs.choice.centre_of.Goals as goal

pub returns-then-middle : goal.returns-then-middle
returns-then-middle c =
    let rs = c.args.readings.now in
    c.first_heard.ensures ∙ sym (first-behind (get_or rs (reach (length rs)) 0) rs c.if-middle.true)

pub returns : goal.returns
returns c =
    let rs = c.args.readings.now in
    sym (first-heard (get_or rs (reach (length rs)) 0) rs (not_silent _ c.if-middle.false))
