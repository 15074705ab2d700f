-- The lines of a sweep that carries planes down by a row, and where silence needs no test in them
-- (SPECIFICATION, "Silence"). Internal to the reading engine.
use Rattle.std.specs.Prelude.{ℕ, ◌≡◌, ◌⊎◌, Bool, true, List}
use Rattle.shape.specs.declared.Shape.{Shape}
use Rattle.median.specs.Sum.{is_short}
use Rattle.lines.specs.Lines.{HoldsReadings, AllHeard, padded_length}

-- the cycle is short, or all readings of both padded rows are heard: then distances are measured
-- without a test for silence
abbrev pub IsPlain : Shape → List ℕ → List ℕ → Type 0
IsPlain s own row =
    (is_short s.cycle ≡ true) ⊎ (AllHeard own (padded_length s) × AllHeard row (padded_length s))

-- all three lines hold readings, and `plain` is true only where silence needs no test
pub record AreCarryLines (plain : Bool) (s : Shape) (own entering leaving : List ℕ) : Type 0 where
  pub own_reads : HoldsReadings s own
  pub entering_reads : HoldsReadings s entering
  pub leaving_reads : HoldsReadings s leaving
  pub entering_plain : plain ≡ true → IsPlain s own entering
  pub leaving_plain : plain ≡ true → IsPlain s own leaving
