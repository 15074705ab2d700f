-- The rows of the output have passed the tests of the drift, so that their lines are written; or
-- the line of the refusal is.
use Rattle.std.proofs.Common.{length}
use Rattle.sheet.proofs.Calls.{SheetAccepted, sheet_accepted, output_sizes, output_clear}
use Rattle.sheet.proofs.Calls.{output-text, refused_sheet, printed_sheet}
use Rattle.sheet.proofs.Fits.{sheet_length-fits}
use Rattle.sheet.proofs.sheet.Goals as goal
use Rattle.sheet.proofs.sheet.Goals.{In-Ok}

-- the tests have passed
passed : (c : In-Ok) → let a = c.args in
    SheetAccepted a.bytes.now (length a.readings.now) (length a.output.now)
    (length a.work.now) c.in-Ok.shape
passed c = sheet_accepted c.in-Ok.ensures.answer

pub write_lines-requires : goal.write_lines-requires
write_lines-requires c =
    let is = c.in-Ok.ensures.memory.output in
    let tests = passed (goal.at.write_lines-requires c).In-Ok in
    let sizes = output_sizes c.args.output.now tests is in record {
      rows_fit = sizes.0;
      columns_fit = sizes.1;
      phases_there = sizes.2;
      rows_clear = output_clear c.args.output.now tests is;
    }

pub returns-in-Ok : goal.returns-in-Ok
returns-in-Ok c =
    let done = c.in-Ok.ensures in
    let lines =
    output-text c.args.output.now (passed (goal.at.returns-in-Ok c).In-Ok) done.memory.output in
    let all = printed_sheet done.answer done.memory (rw lines at c.write_lines.ensures) in
    record { sheet_call = all; result_bound = sheet_length-fits all }

pub returns-in-Err : goal.returns-in-Err
returns-in-Err c =
    let s = refused_sheet c.in-Err.ensures.answer c.in-Err.ensures.memory c.write_refusal.ensures in
    record { sheet_call = s; result_bound = sheet_length-fits s }
