-- The walk outward from the centre a, which settles equal sums (SPECIFICATION, "Equals"): what it
-- knows of the ticks that it has passed, and what it answers. Internal to the level engine.
use Rattle.std.specs.Prelude.{ℕ, ◌<◌, ◌≡◌, Option, Some, None}
use Rattle.cycle.specs.Distance.{distance}
use Rattle.median.specs.Choice.{candidates, IsChosen}

-- no tick that is fewer than e ticks away from a has the least sum
abbrev pub HasPassed : ℕ → ℕ → (ℕ → ℕ) → ℕ → ℕ → Type 0
HasPassed c a sum least e = (q : ℕ) → q < c → distance c a q < e → sum q ≡ least → ⊥

-- what a walk up to step e answers: the chosen tick, or none, and then no tick nearer than e has
-- the least sum
abbrev pub WalkResult : ℕ → ℕ → (ℕ → ℕ) → ℕ → ℕ → Option ℕ → Type 0
WalkResult c a sum least e (Some tick) = IsChosen c a sum (candidates c) tick
WalkResult c a sum least e None = HasPassed c a sum least e
