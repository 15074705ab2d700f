-- An empty range writes nothing; else the rows are written, and the two parts of the work memory
-- that are lent are together as long as the need.
use Prim.Native.Nat.{◌*◌, ◌+◌}
use mathlib.Core.Path.{◌≡◌, ◌∙◌, sym}
use native.Mathlib.Omega.{arith}
use lib.ListN.{length-take}
use Rattle.std.specs.Ordering.{is_lt, nat_cmp}
use Rattle.std.proofs.lemmas.Bool.{not-true}
use Rattle.std.proofs.lemmas.Map.Keys.{ge_from_not_lt}
use Rattle.lists.proofs.Written.{set_range_none}
use Rattle.shape.specs.Need.{level_need}
use Rattle.sums.proofs.Memory.{outside-none, outside_two}
use Rattle.level.proofs.rows.fill.Goals as goal

pub returns-then-is_empty : goal.returns-then-is_empty
returns-then-is_empty c =
    let rows = c.args.rows in
    let after = not-true (is_lt (nat_cmp rows.start rows.end))
    (sym c.is_empty.ensures ∙ c.if-is_empty.true) in
    let e : rows.start ≡ rows.end =
    omega (arith, c.requires.order, ge_from_not_lt rows.start rows.end after) in
    record { phases = rw e (sym (set_range_none _ _ _)); outside = outside-none }

pub returns : goal.returns
returns c =
    let s = c.args.image.now.shape in
    let need : s.columns * s.cycle + s.cycle ≡ level_need s = omega arith in
    record {
      phases = c.each_row.ensures;
      outside = rw need at
          (outside_two {w = c.args.work.now} {m = s.columns * s.cycle} {n =
          s.cycle} c.each_row.new.sums c.each_row.new.change c.split_at_mut-sums.ensures.back
          (c.each_row.auto.sums ∙ c.split_at_mut-sums.ensures.front_len)
          (c.each_row.auto.change ∙ simp length-take
          (omega (arith, c.split_at_mut-sums.ensures.back_len, c.requires.given.room)))
          (omega (arith, c.requires.given.room)));
    }
