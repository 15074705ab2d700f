-- The columns at one offset more behind are counted, and the plane has the changes added.
use Prim.Native.Nat.{ℕ, ◌+◌, ◌-◌, ◌%◌, ◌^◌, ◌<◌}
use mathlib.Core.Path.{refl, ap, sym, ◌∙◌}
use native.Mathlib.Omega.{arith}
use lib.ListN.{get_or}
use Rattle.lists.proofs.Difference.{plus_minus-added}
use Rattle.sums.proofs.Memory.{part-reads}
use Rattle.reading_sums.proofs.Sums.{line_room}
use Rattle.reading_sums.proofs.Sweeps.{behind_more}
use Rattle.reading_sums.proofs.Turns.{counted-part}
use Rattle.reading_sums.proofs.build.Built.behind.Goals as goal

pub returns : goal.returns
returns c =
    let a = c.args.self.now in
    let s = a.image.shape in
    let l = c.args.l in
    let n = s.columns + (s.mask_columns - 1 - l) in
    let room = line_room s a.image.ready.shape in
    let done = counted-part {z = c.args.changes.now} l 0 l _ n c.count.new.changes refl
    (omega (arith, room, c.told-changes)) (omega arith)
    c.count.auto.changes c.count.ensures in
    let behind = behind_more s _ _ l c.requires.later_plane.0 c.requires.later_plane.1
    c.requires.behind done in record {
      behind_next = behind;
      gained = λ j h.
          let short : j < s.columns = omega (arith, c.add.auto.sums, c.requires.one_plane) in
          let inside : j < l + s.columns - l = omega arith in
          c.add.ensures j h ∙ sym (plus_minus-added _ _ _ refl)
          ∙ ap (λ (x : ℕ). (get_or c.args.plane.now j 0 + x) % 2 ^ 32)
          (part-reads _ l _ j inside
          ∙ behind.holds j (omega (arith, short, c.requires.later_plane)));
    }
