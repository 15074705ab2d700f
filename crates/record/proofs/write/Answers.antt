-- A record that has passed its tests is stored at the front of the bytes.
use Rattle.std.proofs.Common.{◌≡◌, ◌≤◌, length, sym, ◌∙◌, arith, rules}
use Rattle.lists.proofs.Stores.{sets_front}
use Rattle.refusal.specs.Outcome.{IsClear}
use Rattle.refusal.specs.Outcome.Outcome.{accepted}
use Rattle.refusal.proofs.Outcome.{passed_clear, due-refused, refused-due, handed_alone}
use Rattle.refusal.proofs.Outcome.{clear_accepted, after-refused, after-accepted}
use Rattle.record_format.specs.Record.{record_bytes, record_length, write_rules, write_due}
use Rattle.record_format.proofs.Fields.{length_record}
use Rattle.record_format.proofs.Writable.{writable}
use Rattle.record.proofs.write.Goals as goal
use Rattle.record.proofs.write.Goals.{In_ok-check_write}

-- all tests of the writer are clear
clear : (c : In_ok-check_write) → let a =
    c.args in IsClear (write_rules a.shape a.readings.now (length a.bytes.now))
clear c = let a = c.args in passed_clear
    (write_rules a.shape a.readings.now (length a.bytes.now)) c.in_ok-check_write.ensures

-- so it answers with the length of the record
call : (c : In_ok-check_write) → let a = c.args in
    write_due a.shape a.readings.now (length a.bytes.now) ≡ accepted (record_length a.shape)
unfolding write_due
call c = let a = c.args in clear_accepted (record_length a.shape)
    (write_rules a.shape a.readings.now (length a.bytes.now)) (clear c)

pub put_record-requires : goal.put_record-requires
put_record-requires c = clear (goal.at.put_record-requires c).In_ok-check_write

pub returns-in_err-check_write : goal.returns-in_err-check_write
unfolding write_due
returns-in_err-check_write c =
    let a = c.args in
    let rs = write_rules a.shape a.readings.now (length a.bytes.now) in
    let answer-is = c.in_err-check_write.ensures in
    record {
      answer = handed_alone rs (record_length a.shape) answer-is (search rules);
      memory = sym (after-refused _ _
          (due-refused (record_length a.shape) (refused-due tt rs _ _ (sym answer-is))));
    }

pub returns : goal.returns
returns c =
    let a = c.args in
    let bytes = record_bytes a.shape a.readings.now in
    let place = (goal.at.returns c).In_ok-check_write in
    let w = writable a.shape a.readings.now (length a.bytes.now) (clear place) in
    let fits : length bytes ≤ length a.bytes.now =
    omega (arith, length_record a.shape a.readings.now w.input, w.bytes) in
    record {
      answer = rw c.put_record.ensures.length (sym (call place));
      memory = c.put_record.ensures.stored ∙ sets_front a.bytes.now bytes fits
          ∙ sym (after-accepted _ _ (call place));
    }
