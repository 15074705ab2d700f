-- `window::mirror_index`: a position stands for what its distance from the start stands for, and
-- few lie a round away.
use Prim.Native.Nat.{ℕ, ◌*◌, ◌%◌}
use mathlib.Core.Path.{◌≡◌, ap, sym, ◌∙◌}
use native.Mathlib.Omega.{arith}
use native.Mathlib.Nat.{mod-eq_of_lt}
use Rattle.window.specs.Mirror.{folded_index, mirror}
use Rattle.window.proofs.Mirror.{folded_low, mirror_from_start}
use Rattle.window.proofs.mirror_index.Goals as goal
use Rattle.window.proofs.mirror_index.Goals.{After-from_start-k}

-- the distance from the start tells the index
folds : (c : After-from_start-k) → let a = c.args in mirror a.extent a.reach a.position
    ≡ folded_index a.extent (c.from_start-k.result % (2 * a.extent))
folds c =
    let a = c.args in
    mirror_from_start a.extent a.reach a.position c.requires.some
    ∙ ap (λ (k : ℕ). folded_index a.extent (k % (2 * a.extent))) (sym c.from_start-k.ensures)

pub returns-then-k-extent : goal.returns-then-k-extent
returns-then-k-extent c =
    let n = c.args.extent in
    let near = c.if-k-extent.true in
    sym (folds (goal.at.returns-then-k-extent c).After-from_start-k
    ∙ ap (folded_index n) (mod-eq_of_lt (omega arith)) ∙ folded_low n _ near)

pub returns-else-k-extent : goal.returns-else-k-extent
returns-else-k-extent c =
    c.along_and_back.ensures ∙ sym (folds (goal.at.returns-else-k-extent c).After-from_start-k)
