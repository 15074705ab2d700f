-- Lines of readings: a row of the padded image with its mirrored edges (SPECIFICATION, "Mirror"),
-- and the centres of a row's windows, with what stands in for the silent ones
-- (SPECIFICATION, "Silence"). Internal.
use Rattle.std.specs.Prelude.{ℕ, ◌+◌, ◌*◌, ◌<◌, ◌≡◌, true, if◌then◌else◌, List, ◌∷◌, length}
use Rattle.std.specs.Prelude.{slice_index}
use Rattle.refusal.specs.Limits.{most_columns, most_mask_columns}
use Rattle.cycle.specs.Silence.{is_heard, is_reading, first_heard}
use Rattle.shape.specs.Rules.{reach}
use Rattle.shape.specs.declared.Shape.{Shape}
use Rattle.window.specs.Mirror.{mirror}
use Rattle.window.specs.Window.{padded_at, part, centre}
use Rattle.window.specs.Phase.{centre_at}

-- the numbers in a line: a longest row, and a mask more at each end
abbrev pub line_length : ℕ
line_length = most_columns + 2 * (most_mask_columns + 1)

-- the line has that many numbers
abbrev pub IsLine : List ℕ → Type 0
IsLine line = length line ≡ line_length

-- the numbers of a padded row: its columns, and the reach of the mask at each end
abbrev pub padded_length : Shape → ℕ
padded_length s = s.columns + 2 * reach s.mask_columns

-- as many numbers of the line as a padded row has are readings: ticks of the cycle, or silent
pub record HoldsReadings (s : Shape) (line : List ℕ) : Type 0 where
  pub len : IsLine line
  pub readings : (k : ℕ) → k < padded_length s → is_reading s.cycle (slice_index line k) ≡ true

-- the line holds the row at position p of the padded image
pub record IsPaddedLine (s : Shape) (image : List ℕ) (p : ℕ) (line : List ℕ) : Type 0 where
  pub len : IsLine line
  pub holds : (k : ℕ) → k < padded_length s → slice_index line k ≡ padded_at 0 s image p k
  pub reads : HoldsReadings s line

-- the line holds, for each column, the centre of its window in row i, or what stands in for it
pub record AreCentres (s : Shape) (image : List ℕ) (i : ℕ) (line : List ℕ) : Type 0 where
  pub len : IsLine line
  pub holds : (j : ℕ) → j < s.columns → slice_index line j ≡ centre_at s image i j

-- the line holds, for each column, the first heard one of the centre, the first k rows of the
-- window and l readings of the next; silent if there is none
pub record AreCentresSoFar (s : Shape) (image : List ℕ) (i k l : ℕ) (line : List ℕ) : Type 0 where
  pub len : IsLine line
  pub holds : (j : ℕ) → j < s.columns
      → slice_index line j ≡ first_heard (centre 0 s image i j ∷ part 0 s image i j k l)

-- a centre, or z where the centre is silent
abbrev pub heard_or : ℕ → ℕ → ℕ
heard_or centre z = (if is_heard centre then centre else z)

-- the same at place j of a line of centres and a line of readings
abbrev pub heard_or_at : List ℕ → List ℕ → ℕ → ℕ
heard_or_at centres readings j = heard_or (slice_index centres j) (slice_index readings j)

-- the first n readings of a line are heard
abbrev pub AllHeard : List ℕ → ℕ → Type 0
AllHeard line n = (j : ℕ) → j < n → is_heard (slice_index line j) ≡ true

-- a row of n numbers stands at place h of a line: the number that mirroring puts at place p
abbrev pub mirrored_number : List ℕ → ℕ → ℕ → ℕ → ℕ
mirrored_number line n h p = slice_index line (h + mirror n h p)
