use Prim.Native.Nat.{◌+◌}
use native.Mathlib.Omega.{arith}
use Rattle.reading_sums.proofs.Ring.{place-room, lent_sums, sums_back}
use Rattle.reading.proofs.Carried.{mask_rows_next, sums_left}
use Rattle.reading.proofs.rows.carry_rows.Goals as goal

pub carry_mask_row-requires-clause-sums_before : goal.carry_mask_row-requires-clause-sums_before
carry_mask_row-requires-clause-sums_before c =
    let r = c.args.row.now in
    lent_sums {w = c.loop-k.work} _ _ c.planes_at-start.ensures
    (omega (arith, c.planes_length-n.ensures))
    (c.loop-k.invariant.left (r.i + c.loop-k.k) (omega arith) (omega arith))

pub loop-k-preserved : goal.loop-k-preserved
loop-k-preserved c =
    let r = c.args.row.now in
    let s = r.image.shape in
    let k = c.loop-k.k in
    let inv = c.loop-k.invariant in
    let start = c.planes_at-start.ensures in
    let back = sums_back {w = c.loop-k.work} _ _ start
    (omega (arith, c.planes_length-n.ensures)) c.carry_mask_row.new.planes
    (omega (
      arith,
      start,
      place-room s (r.i + k) (omega (arith, c.requires.carried.some_left)),
      c.requires.room,
      c.loop-k.auto.work,
    )) c.carry_mask_row.auto.planes
    c.carry_mask_row.ensures.sums in
    record {
      done = mask_rows_next inv.done
          (omega (arith, c.requires.carried.some_left)) back c.carry_mask_row.ensures.weighed_next;
      left = sums_left s r.image.readings.now r.i k back.1
          (omega (arith, c.requires.carried.some_left)) inv.left;
      leaving = rw c.carry_mask_row.ensures.leaving_unchanged inv.leaving;
    }
