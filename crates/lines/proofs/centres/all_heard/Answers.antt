-- No cycle has the silent reading as a tick, and it is the highest number of 16 bits: where the
-- highest reading is below it, all are heard.
use Prim.Native.Nat.{ℕ, ◌+◌, ◌%◌, ◌^◌, ◌≤◌, ◌<◌}
use mathlib.Core.Path.{◌≡◌}
use mathlib.Core.Bool.{true}
use native.Mathlib.Omega.{arith}
use borrow.Author.Tests.{ltb-true}
use Rattle.cycle.specs.Silence.{silent, is_heard}
use Rattle.cycle.proofs.SilenceLaws.{not_silent}
use Rattle.lines.proofs.centres.all_heard.Goals as goal

-- a number at most r, which is below the silent reading, is heard
below-silent : (x : ℕ) {r : ℕ} → x < 2 ^ 16 → (x + 0) % 2 ^ 16 ≤ r → r < silent → is_heard x ≡ true
below-silent x fit h g = not_silent x (λ e. omega arith)

pub returns : goal.returns
returns c =
    λ e j l. below-silent _ (c.type_inv.readings j).fits (c.highest.ensures j l) (ltb-true _ _ e)
