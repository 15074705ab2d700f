-- The record has passed its tests, so its readings are stored and the filter does not refuse.
use Rattle.std.proofs.Common.{◌≡◌, refl, sym, length, arith, length-take}
use Rattle.lists.specs.Front.{at_front}
use Rattle.record_format.specs.Reading.{image_in}
use Rattle.refusal.proofs.Outcome.{not_refused}
use Rattle.sheet.proofs.Calls.{SheetAccepted, sheet_accepted, image_room}
use Rattle.sheet.proofs.Calls.{filter_passes, record_filtered}
use Rattle.sheet.proofs.filter_record.Goals as goal
use Rattle.sheet.proofs.filter_record.Goals.{In_ok-parsed, After-store}

-- the tests have passed
passed : (c : In_ok-parsed) → let a = c.args in
    SheetAccepted a.bytes.now (length a.readings.now) (length a.output.now)
    (length a.work.now) c.in_ok-parsed.parsed.shape
passed c = sheet_accepted c.in_ok-parsed.ensures.answer

-- the image stands at the front of the buffer
stored : (c : After-store) → let a = c.args in
    c.store.new.readings ≡ at_front (image_in a.bytes.now) a.readings.now
stored c = rw c.in_ok-parsed.ensures.bytes_kept at c.store.ensures

pub slice_bounds-run-end : goal.slice_bounds-run-end
slice_bounds-run-end c =
    let at = goal.at.slice_bounds-run-end c in
    omega (arith, image_room c.args.readings.now (passed at.In_ok-parsed) (stored at.After-store))

pub slice_bounds-run-end-2 : goal.slice_bounds-run-end-2
slice_bounds-run-end-2 c =
    let at = goal.at.slice_bounds-run-end-2 c in
    omega (
      arith,
      length-take c.area.result c.store.new.readings,
      image_room c.args.readings.now (passed at.In_ok-parsed) (stored at.After-store),
    )

pub returns-in_err-run : goal.returns-in_err-run
returns-in_err-run c =
    let at = goal.at.returns-in_err-run c in
    let tests = passed at.In_ok-parsed in
    not_refused (sym (filter_passes c.args.readings.now tests (stored at.After-store)
    (rw c.area.ensures refl) c.engine_for-engine.ensures c.in_err-run.ensures))

pub returns-clause-memory : goal.returns-clause-memory
returns-clause-memory c =
    let at = goal.at.returns-clause-memory c in
    record_filtered c.args.readings.now (passed at.In_ok-parsed) (stored at.After-store)
    (rw c.area.ensures refl) c.engine_for-engine.ensures c.run.ensures
