use Prim.Native.Nat.{◌+◌}
use native.Mathlib.Omega.{arith}
use Rattle.reading_sums.proofs.Ring.{place-room, sums_back}
use Rattle.reading.proofs.Carried.{mask_rows_next}
use Rattle.reading.proofs.rows.build_rows.Goals as goal

pub loop-k-preserved : goal.loop-k-preserved
loop-k-preserved c =
    let r = c.args.row.now in
    let s = r.image.shape in
    let start = c.planes_at-start.ensures in
    let back = sums_back {w = c.loop-k.work} _ _ start
    (omega (arith, c.planes_length-n.ensures)) c.build_mask_row.new.planes
    (omega (
      arith,
      start,
      place-room s (r.i + c.loop-k.k) (omega arith),
      c.requires.room,
      c.loop-k.auto.work,
    )) c.build_mask_row.auto.planes c.build_mask_row.ensures.sums in
    mask_rows_next c.loop-k.invariant (omega arith) back c.build_mask_row.ensures.weighed_next
