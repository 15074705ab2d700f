use Prim.Native.Nat.{◌+◌, ◌-◌, ◌*◌}
use mathlib.Core.Path.{◌≡◌, refl, ◌∙◌}
use native.Mathlib.Omega.{arith}
use Rattle.reading.proofs.RowWeighing.{row_last}
use Rattle.reading.proofs.Sweeping.{built_first, sweeping_more, sweeping_plane}
use Rattle.reading.proofs.turns.build.Goals as goal

pub weigh-requires-clause-sums : goal.weigh-requires-clause-sums
weigh-requires-clause-sums c =
    let a = c.args.mask_row.now in
    let r = a.row in
    let first =
    built_first r.image.ready r.inside a.line (c.ahead.auto.planes ∙ c.requires.all_planes)
    c.ahead.ensures.fronts c.ahead.ensures.behind in
    sweeping_plane 0 0 r.image.shape.columns first (omega arith) (omega arith) refl

pub loop-l-init : goal.loop-l-init
loop-l-init c =
    let a = c.args.mask_row.now in
    let r = a.row in
    record {
      sweeping = built_first r.image.ready r.inside a.line
          (c.ahead.auto.planes ∙ c.requires.all_planes)
          c.ahead.ensures.fronts c.ahead.ensures.behind;
      weighed = c.weigh.ensures;
    }

pub weigh-requires-in-loop-l-clause-sums : goal.weigh-requires-in-loop-l-clause-sums
weigh-requires-in-loop-l-clause-sums c =
    let s = c.args.mask_row.now.row.image.shape in
    let l = c.loop-l.l in
    let base = l * s.columns in
    let k = base + s.columns - base in
    let next = sweeping_more l base k c.behind.new.plane c.loop-l.invariant.sweeping
    c.loop-l-test.true refl (omega arith) c.behind.auto.plane
    c.behind.ensures.gained c.behind.ensures.behind_next in
    sweeping_plane l base k next (omega arith) refl (omega arith)

pub loop-l-preserved : goal.loop-l-preserved
loop-l-preserved c =
    let s = c.args.mask_row.now.row.image.shape in
    let l = c.loop-l.l in
    let base = l * s.columns in
    let k = base + s.columns - base in
    record {
      sweeping = sweeping_more l base k c.behind.new.plane c.loop-l.invariant.sweeping
          c.loop-l-test.true refl (omega arith) c.behind.auto.plane
          c.behind.ensures.gained c.behind.ensures.behind_next;
      weighed = c.weigh-in-loop-l.ensures;
    }

pub returns-clause-weighed_next : goal.returns-clause-weighed_next
returns-clause-weighed_next c =
    let inv = c.loop-l.invariant in
    let all : c.loop-l.l ≡ c.args.mask_row.now.row.image.shape.mask_columns =
    omega (arith, inv.sweeping.within, c.loop-l-test.false) in
    row_last (rw all at inv.weighed)
