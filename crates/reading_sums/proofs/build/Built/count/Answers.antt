use Prim.Native.Nat.{◌+◌, ◌-◌, ◌*◌, ◌≤◌}
use mathlib.Core.Path.{◌≡◌, refl}
use lib.ListN.{length}
use native.Mathlib.Omega.{arith}
use Rattle.refusal.specs.Limits.{longest_cycle}
use Rattle.shape.proofs.Accepted.{Accepted}
use Rattle.lines.specs.Lines.{padded_length}
use Rattle.reading_sums.proofs.Sums.{sizes, line_room}
use Rattle.reading_sums.proofs.Measured.{short_plain, measurable}
use Rattle.reading_sums.proofs.Turns.{rows_none, rows_one, rows_two, rows_counted}
use Rattle.reading_sums.proofs.build.Built.count.Goals as goal
use Rattle.reading_sums.proofs.build.Built.count.Goals.{Start}

-- the bounds of the sizes that have passed their tests
accepted : (s : Start) → Accepted longest_cycle s.args.self.now.image.shape
accepted s = sizes s.args.self.now.image.shape s.args.self.now.image.ready.shape

-- the columns that are counted lie within the padded row
inside : (s : Start)
    → s.args.at + length s.args.changes.now ≤ padded_length s.args.self.now.image.shape
inside s = omega (arith, (accepted s).mask_columns_odd)

-- so do the places
places : (s : Start)
    → s.args.start + length s.args.changes.now ≤ padded_length s.args.self.now.image.shape
places s = omega (arith, (accepted s).mask_columns_odd)

pub loop-pair-init : goal.loop-pair-init
loop-pair-init c = rows_none (λ q. (c.type_inv.changes q).fits)

pub distances_to_two-requires-clause-by_row : goal.distances_to_two-requires-clause-by_row
distances_to_two-requires-clause-by_row c =
    let a = c.args.self.now in
    let s = (goal.at.distances_to_two-requires-clause-by_row c).Start in
    measurable a.image.shape a.image.ready.shape a.own_reads c.pad.ensures.reads
    (short_plain a.image.shape a.own.now _ c.is_short-plain.ensures)
    c.args.start c.args.at _ _ (omega arith) (omega (arith, places s)) (omega (arith, inside s))

pub distances_to_two-requires-clause-by_other : goal.distances_to_two-requires-clause-by_other
distances_to_two-requires-clause-by_other c =
    let a = c.args.self.now in
    let s = (goal.at.distances_to_two-requires-clause-by_other c).Start in
    measurable a.image.shape a.image.ready.shape a.own_reads c.pad-in-loop-pair.ensures.reads
    (short_plain a.image.shape a.own.now _ c.is_short-plain.ensures) c.args.start c.args.at _ _
    (omega arith) (omega (arith, places s)) (omega (arith, inside s))

pub loop-pair-preserved : goal.loop-pair-preserved
loop-pair-preserved c =
    let a = c.args.self.now in
    let s = (goal.at.loop-pair-preserved c).Start in
    let k = 2 * c.loop-pair.pair in
    let next : 2 * (c.loop-pair.pair + 1) ≡ k + 2 = omega arith in
    let room = line_room a.image.shape a.image.ready.shape in
    rw next (rows_two k (length c.args.changes.now) c.loop-pair.invariant refl (inside s)
    (omega (arith, a.own_reads.len, room, c.requires.offset))
    c.grow.auto.changes _ _ _ (omega (arith, c.loop-pair.auto.changes))
    (omega (arith, c.loop-pair.auto.changes)) (omega (arith, c.loop-pair.auto.changes))
    c.grow.ensures c.pad.ensures c.pad-in-loop-pair.ensures c.distances_to_two.ensures)

pub distances-requires-clause-measurable : goal.distances-requires-clause-measurable
distances-requires-clause-measurable c =
    let a = c.args.self.now in
    let s = (goal.at.distances-requires-clause-measurable c).Start in
    measurable a.image.shape a.image.ready.shape a.own_reads a.last_row.reads
    (short_plain a.image.shape a.own.now _ c.is_short-plain.ensures)
    c.args.start c.args.at _ _ (omega arith) (omega (arith, places s)) (omega (arith, inside s))

pub returns : goal.returns
returns c =
    let a = c.args.self.now in
    let s = (goal.at.returns c).Start in
    let k = 2 * c.loop-pair.pair in
    let done : k + 1 ≡ a.image.shape.mask_rows =
    omega (arith, (accepted s).mask_rows_odd, c.loop-pair-test.false) in
    let here : a.i + a.image.shape.mask_rows - 1 ≡ a.i + k = omega arith in
    let room = line_room a.image.shape a.image.ready.shape in
    let last = rows_one k (length c.args.changes.now) c.loop-pair.invariant refl (inside s)
    (omega (arith, a.own_reads.len, room, c.requires.offset))
    c.grow-2.auto.changes _ _ _ (omega (arith, c.loop-pair.auto.changes))
    (omega (arith, c.loop-pair.auto.changes)) (omega (
      arith,
      c.loop-pair.auto.changes,
    )) c.grow-2.ensures (rw here at a.last_row) c.distances.ensures in
    (rows_counted done last)
