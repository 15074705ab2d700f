-- The plane is weighed with the readings at its places, from the centres of its windows.
use Prim.Native.Nat.{ℕ, ◌+◌, ◌-◌, ◌<◌}
use mathlib.Core.Path.{◌≡◌, ◌∙◌}
use native.Mathlib.Omega.{arith}
use lib.ListN.{length, get_or, take, drop}
use Rattle.std.proofs.lemmas.List.{length-take, length-drop}
use Rattle.sums.proofs.Memory.{changed_length, part-reads}
use Rattle.reading_sums.specs.Sums.{reading_sum}
use Rattle.reading_sums.proofs.Sums.{line_room}
use Rattle.reading.proofs.RowWeighing.{row_signed, plane_signed, row_more}
use Rattle.reading.proofs.mask_row.MaskRow.weigh.Goals as goal
use Rattle.reading.proofs.mask_row.MaskRow.weigh.Goals.{Start}

-- the plane has the sums of its readings
summed : (s : Start) → let a = s.args.self.now in (j : ℕ) → j < a.row.image.shape.columns
    → get_or s.args.plane.now j 0
    ≡ reading_sum a.row.image.shape a.row.image.readings.now a.row.i (a.row.i + a.k) s.args.l j
summed s j h = s.requires.sums j (omega (arith, s.requires.one_plane))

pub weigh-requires : goal.weigh-requires
weigh-requires c =
    let a = c.args.self.now in
    let r = a.row in
    let e = c.requires.one_plane in
    let room = line_room r.image.shape r.image.ready.shape in
    let l = c.args.l in
    let n = length c.args.plane.now in
    let signed = row_signed r.image.ready r.inside a.inside
    (omega (arith, c.requires.inside)) c.requires.weighed in record {
      short = omega (arith, e, room);
      own_long = omega (
        arith,
        e,
        room,
        a.line.len,
        c.requires.inside,
        length-take (l + n - l) (drop l a.own.now),
        length-drop l a.own.now,
      );
      centres_long = omega (arith, e, room, r.centred.len, length-take n r.centres.now);
      ranks_long = omega (arith, e, room, c.told-ranks, length-take n c.args.ranks.now);
      sums-signed = λ j h. plane_signed r.image.ready r.inside a.inside c.requires.inside
          c.args.plane.now a.line (summed (goal.at.weigh-requires c).Start) j (omega (arith, e));
      least-signed = λ j h. signed.0 j (omega (arith, e));
      nearest-signed = λ j h. signed.1 j (omega (arith, e));
    }

pub returns : goal.returns
returns c =
    let a = c.args.self.now in
    let r = a.row in
    let l = c.args.l in
    let n = length c.args.plane.now in
    let e = c.requires.one_plane in
    row_more r.image.ready r.inside a.inside c.requires.inside c.args.plane.now
    (take (l + n - l) (drop l a.own.now)) (take n r.centres.now) a.line
    (λ j h.
    let inside : j < n = omega (arith, e) in
    let first : 0 + j ≡ j = omega arith in
    part-reads r.centres.now 0 n j inside ∙ rw first (r.centred.holds j h))
    (summed (goal.at.returns c).Start)
    (λ j h. let inside : j < l + n - l =
    omega (arith, e) in part-reads a.own.now l (l + n - l) j inside)
    (changed_length c.weigh.ensures.sums_changed e)
    (changed_length c.weigh.ensures.ranks_changed e) c.requires.weighed
