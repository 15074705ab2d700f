use Prim.Native.Nat.{ℕ, ◌+◌, ◌-◌, ◌*◌, ◌<◌}
use mathlib.Core.Path.{refl, ap, ◌∙◌}
use mathlib.Core.List.{List}
use native.Mathlib.Omega.{arith}
use lib.ListN.{get_or}
use Rattle.std.proofs.Common.{rules}
use Rattle.sums.proofs.Memory.{changed_part, part-reads}
use Rattle.reading_sums.proofs.Marks.{mark-small}
use Rattle.reading_sums.proofs.Sums.{plane_within, line_room}
use Rattle.reading_sums.proofs.Sweeps.{behind-none}
use Rattle.reading_sums.proofs.SweepAhead.{sweep_none, sweep_more}
use Rattle.reading_sums.proofs.Turns.{cleared, counted-part}
use Rattle.reading_sums.proofs.build.Built.ahead.Goals as goal

pub loop-m-init : goal.loop-m-init
loop-m-init c =
    let a = c.args.self.now in
    let room = line_room a.image.shape a.image.ready.shape in
    let begun = changed_part {w = c.args.changes.now} {base = 0} c.begin.new.changes
    (omega (arith, room, c.told-changes)) refl c.begin.auto.changes c.begin.ensures in
    record {
      sweep = sweep_none (λ p. omega (arith, mark-small (get_or a.own.now p 0))) begun;
      long = begun.len ∙ c.told-changes;
    }

pub loop-m-preserved : goal.loop-m-preserved
loop-m-preserved c =
    let a = c.args.self.now in
    let s = a.image.shape in
    let l = s.mask_columns - 1 - c.loop-m.m in
    let n = s.columns + l in
    let base = l * s.columns in
    let room = line_room s a.image.ready.shape in
    let long = c.loop-m.invariant.long in
    let counted = changed_part {w = c.loop-m.changes} {base = 0} {n = n} c.count.new.changes
    (omega (arith, room, long)) (omega arith) c.count.auto.changes c.count.ensures in
    let done = counted-part {z = c.loop-m.changes} 0 c.loop-m.m 0 _ n c.count.new.changes refl
    (omega (arith, room, long)) (omega arith) c.count.auto.changes c.count.ensures in
    let put = changed_part {w = c.loop-m.planes} {base = base}
    {n = s.columns} c.copy.new.to
    (omega (arith, plane_within s l (omega arith), c.requires, c.loop-m.auto.planes))
    (omega arith) c.copy.ensures.len
    {f = λ j. get_or c.copy.new.to j 0} (λ j h. refl) in
    record {
      sweep = sweep_more c.loop-m.invariant.sweep c.loop-m-test.true (λ j. 0) done put
          (λ j h.
          let inside : j < l + s.columns - l = omega arith in
          let copied = ap (λ (x : List ℕ). get_or x j 0) c.copy.ensures.after
          ∙ part-reads _ l _ j inside in
          omega (arith, copied, put.holds j h, c.type_inv.planes (base + j)))
          (λ j h. omega arith);
      long = counted.len ∙ long;
    }

pub returns-clause-behind : goal.returns-clause-behind
returns-clause-behind c =
    let s = c.args.self.now.image.shape in
    behind-none s _ _ (cleared {z = c.loop-m.changes} _ c.fill.new.self
    (omega (arith, line_room s c.args.self.now.image.ready.shape, c.loop-m.invariant.long))
    c.fill.ensures.len (search rules))
