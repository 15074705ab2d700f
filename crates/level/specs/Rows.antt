-- The level engine's rows: what they are given, and what they leave. Internal to the engine.
use Rattle.std.specs.Prelude.{ℕ, ◌*◌, ◌≤◌, ◌<◌, ◌≡◌, true, List, length, slice_index}
use Rattle.lists.specs.Tabulate.{tabulate, set_range}
use Rattle.refusal.specs.Limits.{longest_cycle}
use Rattle.cycle.specs.Silence.{silent, is_reading}
use Rattle.median.specs.Choice.{candidates, IsChosen}
use Rattle.sums.specs.Memory.{AreSigned}
use Rattle.window.specs.Phase.{phase_at}
use Rattle.lines.specs.declared.image.Image.{Image}

-- `out` holds the phases of row i, one for each column
abbrev pub HoldsPhases : Image → ℕ → List ℕ → Type 0
HoldsPhases image i out = out ≡ tabulate (phase_at image.shape image.readings.now)
    (i * image.shape.columns) image.shape.columns

-- the rows of the output from `first` up to `end` hold their phases, and the rest is as it was
abbrev pub WritesRows : Image → ℕ → ℕ → List ℕ → List ℕ → Type 0
WritesRows image first end out₀ out =
    out ≡ set_range (phase_at image.shape image.readings.now) (first * image.shape.columns)
    (end * image.shape.columns) out₀

-- a phase can be chosen by a centre and sums, one for each tick of the cycle: the centre is a
-- reading, and the sums are below 2 ^ 31
pub record IsChoosable (centre : ℕ) (sums : List ℕ) : Type 0 where
  pub fits : length sums ≤ longest_cycle
  pub reading : is_reading (length sums) centre ≡ true
  pub signed : AreSigned (slice_index sums) (length sums)

-- r is the phase by them: where the centre is a tick, the chosen tick of the cycle
-- (SPECIFICATION, "Chosen phase"); where it is silent, since none of the window was heard, silent
-- (SPECIFICATION, "Silence")
pub record IsChosenBy (centre : ℕ) (sums : List ℕ) (r : ℕ) : Type 0 where
  pub some-heard : centre < length sums
      → IsChosen (length sums) centre (slice_index sums) (candidates (length sums)) r
  pub none-heard : centre ≡ silent → r ≡ silent
