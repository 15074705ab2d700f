-- One place more: each array gets what is due there, and the distance to the newest is added to its
-- sum.
use Rattle.std.proofs.Common.{◌≡◌, ◌+◌, get_or, refl, ◌∙◌, arith}
use Rattle.sums.proofs.Memory.{begun_none, begun_more}
use Rattle.live.specs.Passes.{reading_behind, distance_to}
use Rattle.live.proofs.Passes.{distances_none, distances_more, slid_sum-is}
use Rattle.live.proofs.running_sums.slide.Goals as goal

pub loop-k-init : goal.loop-k-init
loop-k-init c = record { moved = begun_none; summed = begun_none; newest = distances_none _ _ _ }

pub loop-k-preserved : goal.loop-k-preserved
loop-k-preserved c =
    let a = c.args in
    let k = c.loop-k.k in
    let now = c.loop-k.invariant in
    let rs = a.readings.now in
    let next : get_or c.loop-k.readings (k + 1) 0 ≡ reading_behind rs k =
    now.moved.left (k + 1) (omega arith) in
    let gain : c.apart-gain.result ≡ distance_to a.cycle a.newest rs k =
    c.apart-gain.ensures ∙ rw next refl in
    let loss : c.apart-loss.result ≡ distance_to a.cycle (get_or rs 0 0) rs k =
    c.apart-loss.ensures ∙ rw next refl in
    let sum : get_or c.loop-k.sums (k + 1) 0 ≡ get_or a.sums.now (k + 1) 0 =
    now.summed.left (k + 1) (omega arith) in
    record {
      moved = begun_more now.moved _ (omega arith) next;
      summed = begun_more now.summed _ (omega arith)
          (slid_sum-is a.cycle a.newest rs a.sums.now k sum gain loss);
      newest = distances_more a.cycle a.newest rs k now.newest gain refl;
    }
