-- An image that has passed the tests for one limit of the cycle.
use Prim.Native.Nat.{ℕ, ◌≤◌}
use mathlib.Core.List.{List}
use native.Mathlib.Omega.{arith}
use borrow.Author.Tests.{ltb-false, le-ltb}
use Rattle.shape.specs.declared.Shape.{Shape}
use Rattle.window.specs.Ready.{IsReady}

-- it has passed those for a higher limit too
pub ready_wider : {a b : ℕ} {s : Shape} {image : List ℕ} → a ≤ b → IsReady a s image
    → IsReady b s image
ready_wider {a} {b} {s} wider r =
    let k = r.shape in
    let fits = ltb-false a s.cycle k.1.0 in
    record { shape = (k.0, (le-ltb b s.cycle (omega arith), k.1.1)); size = r.size; good = r.good }
