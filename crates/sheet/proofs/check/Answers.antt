-- 14, the reader and the filter in turn, as `sheet_due` has them.
use Rattle.std.proofs.Common.{rules}
use Rattle.record.proofs.Parsed.{handed_shape}
use Rattle.sheet.proofs.Calls.{roomless_call, passed_call}
use Rattle.sheet.proofs.check.Goals as goal

pub returns-in_err-check_room-clause-answer : goal.returns-in_err-check_room-clause-answer
returns-in_err-check_room-clause-answer c =
    let a = c.args in
    let answer-is = rw c.engine_for.ensures at c.in_err-check_room.ensures in
    handed_shape (roomless_call a.bytes.now a.readings a.output a.work
    c.in_ok-refuse_if.ensures c.in_ok-parsed.ensures.answer answer-is) (search rules)

pub returns-clause-answer : goal.returns-clause-answer
returns-clause-answer c =
    let a = c.args in
    let answer-is = rw c.engine_for.ensures at c.in_ok-check_room.ensures in
    passed_call a.bytes.now a.readings a.output a.work
    c.in_ok-refuse_if.ensures c.in_ok-parsed.ensures.answer answer-is
