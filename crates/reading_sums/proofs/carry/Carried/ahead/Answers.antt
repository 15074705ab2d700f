use Prim.Native.Nat.{◌+◌, ◌-◌, ◌*◌, ◌/◌, ◌<◌}
use mathlib.Core.Path.{◌≡◌, refl, ◌∙◌}
use native.Mathlib.Omega.{arith}
use lib.ListN.{get_or}
use Rattle.std.proofs.Common.{rules}
use Rattle.sums.proofs.Memory.{changed_part, part-reads}
use Rattle.reading_sums.specs.Planes.{carried_number}
use Rattle.reading_sums.proofs.Sums.{plane_within, sizes, line_room}
use Rattle.reading_sums.proofs.Sweeps.{behind-none}
use Rattle.reading_sums.proofs.Measured.{carried_long, entering_measurable, leaving_measurable}
use Rattle.reading_sums.proofs.SweepAhead.{sweep_none, sweep_held, sweep_more}
use Rattle.reading_sums.proofs.Turns.{cleared, steps-read, moved-part, counted-steps}
use Rattle.reading_sums.proofs.carry.Carried.ahead.Goals as goal

pub loop-m-init : goal.loop-m-init
loop-m-init c =
    let a = c.args.self.now in
    let start = cleared {z = c.args.changes.now} _ c.fill.new.self
    (omega (arith, line_room a.shape a.accepted)) c.fill.ensures.len (search rules) in
    record { sweep = sweep_none (λ p. omega arith) start; long = start.len ∙ c.told-changes }

pub steps-requires-clause-by_entering : goal.steps-requires-clause-by_entering
steps-requires-clause-by_entering c =
    let a = c.args.self.now in
    let odd = (sizes a.shape a.accepted).mask_columns_odd in
    entering_measurable a.shape a.accepted a.lines 0 c.loop-m.m _ _ (omega arith)
    (omega (arith, odd)) (omega (arith, odd))

pub steps-requires-clause-by_leaving : goal.steps-requires-clause-by_leaving
steps-requires-clause-by_leaving c =
    let a = c.args.self.now in
    let odd = (sizes a.shape a.accepted).mask_columns_odd in
    leaving_measurable a.shape a.accepted a.lines 0 c.loop-m.m _ _ (omega arith)
    (omega (arith, odd)) (omega (arith, odd))

pub loop-m-preserved : goal.loop-m-preserved
loop-m-preserved c =
    let a = c.args.self.now in
    let s = a.shape in
    let m = c.loop-m.m in
    let l = s.mask_columns - 1 - m in
    let base = l * s.columns in
    let room = line_room s a.accepted in
    let steps = c.steps.new.steps in
    let long = c.loop-m.invariant.long in
    let taken = steps-read s.cycle a.own.now a.entering.now a.leaving.now 0 m _ _ (s.columns + l)
    (omega arith) (omega arith)
    (omega (arith, carried_long a.lines, room)) c.steps.ensures in
    let moved = moved-part {z = c.loop-m.changes} steps (s.cycle / 2) 0 _
    (s.columns + l) 0 _ c.move_add.new.changes (omega (arith, long, room)) (omega arith)
    (omega arith) c.move_add.auto.changes c.move_add.ensures.changes_moved in
    let stored = changed_part {w = c.loop-m.changes} {base = 0}
    {n = s.columns + l} c.move_add.new.changes (omega (arith, long, room)) (omega arith)
    c.move_add.auto.changes {f = λ q. get_or c.move_add.new.changes q 0} (λ q h. refl) in
    let plane =
    changed_part {w = c.loop-m.planes} {base = base} {n = s.columns} c.move_add.new.plane
    (omega (arith, plane_within s l (omega arith), c.requires, c.loop-m.auto.planes))
    (omega arith) c.move_add.auto.plane c.move_add.ensures.plane_summed in
    record {
      sweep = sweep_more c.loop-m.invariant.sweep c.loop-m-test.true
          (carried_number s c.args.planes.now l)
          (counted-steps s.cycle a.own.now a.entering.now a.leaving.now steps 0 m
          (s.columns + l) taken moved) plane
          (λ j h.
          let inside : j < base + s.columns - base = omega arith in
          let first : 0 + (l + j) ≡ l + j = omega arith in
          rw (
            part-reads c.loop-m.planes base (base + s.columns - base) j inside,
            sweep_held c.loop-m.invariant.sweep c.loop-m-test.true j h,
            ← (rw first at (stored.holds (l + j) (omega arith))),
          ))
          (λ j h. omega arith);
      long = moved.len ∙ long;
    }

pub returns-clause-behind : goal.returns-clause-behind
returns-clause-behind c =
    let a = c.args.self.now in
    behind-none a.shape _ _ (cleared {z = c.loop-m.changes} _ c.fill-2.new.self
    (omega (arith, line_room a.shape a.accepted, c.loop-m.invariant.long)) c.fill-2.ensures.len
    (search rules))
