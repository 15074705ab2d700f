use Prim.Native.Nat.{ℕ, ◌+◌, ◌-◌, ◌*◌, ◌≤◌}
use mathlib.Core.Path.{subst, ◌≡◌}
use native.Mathlib.Omega.{arith}
use lib.ListN.{length}
use Rattle.lists.proofs.Parts.{part_end}
use Rattle.lists.proofs.Written.{run_start, run_part}
use Rattle.level.specs.Rows.{HoldsPhases}
use Rattle.level.proofs.rows.each_row.Goals as goal
use Rattle.level.proofs.rows.each_row.Goals.{then-i-first, else-i-first, In-loop-i}

-- row i + 1 starts where row i ends
next_place : (i n : ℕ) → (i + 1) * n ≡ i * n + n
next_place i n = omega arith

-- row i lies within the output
inside : (c : In-loop-i) → let n =
    c.args.source.now.image.shape.columns in c.loop-i.i * n + n ≤ length c.args.output.now
inside c =
    let shape = c.args.source.now.image.shape in
    omega (
      arith,
      part_end c.loop-i.i shape.rows shape.columns
          (omega (arith, c.requires.image_rows)),
      c.requires.output_room,
    )

pub loop-i-init : goal.loop-i-init
loop-i-init c = record { written = run_start; above = λ h. absurd (omega arith) }

pub loop-i-preserved : goal.loop-i-preserved
loop-i-preserved c =
    let l = c.loop-i in
    let image = c.args.source.now.image in
    let n = image.shape.columns in
    let room = inside (goal.at.loop-i-preserved c).In-loop-i in
    let e : l.i + 1 - 1 ≡ l.i = omega arith in
    elim c.if-i-first.branch [
      | then-i-first w ↦
          record {
            written = rw (w.output-is, next_place l.i n)
                (run_part l.invariant.written n _ room w.first_row.ensures.phases);
            above = λ h. rw (e, w.sums-is) w.first_row.ensures.sums;
          }
      | else-i-first w ↦
          let d : l.i - 1 + 1 ≡ l.i = omega (arith, w.if-i-first.false) in
          let phases = subst
          (λ (k : ℕ). HoldsPhases image k w.next_row.new.out) d w.next_row.ensures.phases in
          record {
            written = rw (w.output-is, next_place l.i n)
                (run_part l.invariant.written n _ room phases);
            above = λ h. rw (e, w.sums-is) (rw d at w.next_row.ensures.sums);
          }
    ]
