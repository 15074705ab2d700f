-- The changes move on by the steps at one offset more behind, and the plane has them added.
use Prim.Native.Nat.{ℕ, ◌+◌, ◌-◌, ◌/◌, ◌%◌, ◌^◌, ◌<◌}
use mathlib.Core.Path.{◌≡◌, refl, ap, sym, ◌∙◌}
use native.Mathlib.Omega.{arith}
use lib.ListN.{get_or}
use Rattle.sums.proofs.Memory.{changed_part}
use Rattle.reading_sums.proofs.Sums.{sizes, line_room}
use Rattle.reading_sums.proofs.Sweeps.{behind_more}
use Rattle.reading_sums.proofs.Measured.{carried_long, entering_measurable, leaving_measurable}
use Rattle.reading_sums.proofs.Turns.{steps-read, moved-part, counted-steps}
use Rattle.reading_sums.proofs.carry.Carried.behind.Goals as goal

pub steps-requires-clause-by_entering : goal.steps-requires-clause-by_entering
steps-requires-clause-by_entering c =
    let a = c.args.self.now in
    let odd = (sizes a.shape a.accepted).mask_columns_odd in
    entering_measurable a.shape a.accepted a.lines c.args.l 0 _ _ (omega arith) (omega (arith, odd))
    (omega (arith, odd))

pub steps-requires-clause-by_leaving : goal.steps-requires-clause-by_leaving
steps-requires-clause-by_leaving c =
    let a = c.args.self.now in
    let odd = (sizes a.shape a.accepted).mask_columns_odd in
    leaving_measurable a.shape a.accepted a.lines c.args.l 0 _ _ (omega arith) (omega (arith, odd))
    (omega (arith, odd))

pub returns : goal.returns
returns c =
    let a = c.args.self.now in
    let s = a.shape in
    let l = c.args.l in
    let rest = s.mask_columns - 1 - l in
    let room = line_room s a.accepted in
    let steps = c.steps.new.steps in
    let taken = steps-read s.cycle a.own.now a.entering.now a.leaving.now l 0 _ _ (s.columns + rest)
    (omega arith) (omega arith)
    (omega (arith, carried_long a.lines, room)) c.steps.ensures in
    let moved = moved-part {z = c.args.changes.now} steps (s.cycle / 2) l _
    (s.columns + rest) 0 _ c.move_add.new.changes (omega (arith, c.told-changes, room))
    (omega arith) (omega arith) c.move_add.auto.changes c.move_add.ensures.changes_moved in
    let stored = changed_part {w = c.args.changes.now} {base = l} {n =
    s.columns + rest} c.move_add.new.changes (omega (arith, c.told-changes, room)) (omega arith)
    c.move_add.auto.changes {f = λ q. get_or c.move_add.new.changes q 0} (λ q h. refl) in
    let behind =
    behind_more s _ _ l c.requires.later_plane.0 c.requires.later_plane.1 c.requires.behind
    (counted-steps s.cycle a.own.now a.entering.now a.leaving.now steps l 0
    (s.columns + rest) taken moved) in record {
      behind_next = behind;
      gained = λ j h.
          let short : j < s.columns = omega (arith, c.move_add.auto.plane, c.requires.one_plane) in
          let first : 0 + j ≡ j = omega arith in
          c.move_add.ensures.plane_summed j h
          ∙ ap (λ (x : ℕ). (get_or c.args.plane.now j 0 + x) % 2 ^ 32)
          (ap (λ (p : ℕ). get_or c.move_add.new.changes p 0) first ∙ sym (stored.holds j
          (omega arith)) ∙ behind.holds j (omega (arith, short, c.requires.later_plane)));
    }
