use Prim.Native.Nat.{ℕ, ◌+◌, ◌*◌, ◌≤◌}
use mathlib.Core.Path.{◌≡◌}
use native.Mathlib.Omega.{arith}
use lib.ListN.{length}
use Rattle.lists.proofs.Parts.{part_end}
use Rattle.lists.proofs.Written.{run_start, run_part}
use Rattle.sums.proofs.Memory.{outside-none, outside_more}
use Rattle.reading_sums.proofs.Sums.{sizes}
use Rattle.reading.proofs.Carried.{carried_next}
use Rattle.reading.proofs.rows.each_row.Goals as goal
use Rattle.reading.proofs.rows.each_row.Goals.{In-loop-i}

-- row i + 1 starts where row i ends
next_place : (i n : ℕ) → (i + 1) * n ≡ i * n + n
next_place i n = omega arith

-- row i lies within the output
inside : (c : In-loop-i) → let n =
    c.args.image.now.shape.columns in c.loop-i.i * n + n ≤ length c.args.output.now
inside c =
    let s = c.args.image.now.shape in
    omega (
      arith,
      part_end c.loop-i.i s.rows s.columns (omega (arith, c.requires.within)),
      c.requires.output-room,
    )

pub loop-i-init : goal.loop-i-init
loop-i-init c =
    record { written = run_start; carried_rows = λ h. absurd (omega arith); outside = outside-none }

pub loop-i-preserved : goal.loop-i-preserved
loop-i-preserved c =
    let s = c.args.image.now.shape in
    let inv = c.loop-i.invariant in
    record {
      written = rw (next_place c.loop-i.i s.columns)
          (run_part inv.written s.columns _
          (inside (goal.at.loop-i-preserved c).In-loop-i) c.one_row.ensures.phases);
      carried_rows = λ h. carried_next (omega
          (arith, (sizes s c.args.image.now.ready.shape).mask_rows_odd)) c.one_row.ensures.sums;
      outside = outside_more inv.outside c.one_row.ensures.outside;
    }
