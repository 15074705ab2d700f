-- The choice of the reading engine on the way along a row (SPECIFICATION, "Chosen phase"). Internal
-- to the engine.
use Rattle.std.specs.Prelude.{ℕ, ◌<◌, List, slice_index}
use Rattle.cycle.specs.Silence.{heard}
use Rattle.shape.specs.declared.Shape.{Shape}
use Rattle.median.specs.Sum.{shares}
use Rattle.median.specs.Weighed.{IsWeighed}
use Rattle.window.specs.Window.{window, part}
use Rattle.window.specs.Phase.{centre_at}

-- in each window of row i the heard ones among the readings of its first k rows and l of the next
-- are weighed, from its centre or what stands in for it
pub record IsRowWeighed (s : Shape) (image : List ℕ) (i k l : ℕ)
    (least nearest : List ℕ) : Type 0 where
  pub weighed : (j : ℕ) → j < s.columns
      → IsWeighed s.cycle (centre_at s image i j) (λ q. shares s.cycle q (window 0 s image i j))
      (heard (part 0 s image i j k l))
      (slice_index least j) (slice_index nearest j)
