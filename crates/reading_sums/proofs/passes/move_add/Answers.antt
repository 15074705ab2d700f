-- The changes that are added to the plane are those that have moved on.
use Rattle.std.proofs.Common.{ℕ, ◌+◌, ◌-◌, ◌%◌, ◌^◌, ◌<◌, length, get_or, refl, sym, ap, ◌∙◌, arith}
use Rattle.lists.proofs.Difference.{plus_minus-added}
use Rattle.sums.proofs.Memory.{part-reads}
use Rattle.reading_sums.proofs.passes.move_add.Goals as goal

pub returns-clause-plane_summed : goal.returns-clause-plane_summed
returns-clause-plane_summed c = λ j h.
    let n = length c.move_on.new.changes in
    let inside : j < n - c.args.at =
    omega (arith, c.add.auto.sums, c.move_on.auto.changes, c.requires.changes_long) in
    c.add.ensures j h ∙ sym (plus_minus-added _ _ _ refl)
    ∙ ap (λ (x : ℕ). (get_or c.args.plane.now j 0 + x) % 2 ^ 32)
    (part-reads c.move_on.new.changes c.args.at _ j inside)
