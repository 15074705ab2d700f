-- The phase that is chosen by the sums of a window, and the row of phases that is written.
use Rattle.std.specs.Prelude.{slice_index}
use Prim.Native.Nat.{ℕ, ◌*◌, ◌≤◌, ◌<◌}
use mathlib.Core.Path.{◌≡◌, sym, ◌∙◌}
use mathlib.Core.List.{List, []}
use native.Mathlib.Omega.{arith}
use lib.ListN.{length}
use lib.Seq.{ext_get_or}
use Rattle.lists.specs.Members.{In}
use Rattle.lists.proofs.Members.{in_some}
use Rattle.lists.proofs.Tabulate.{length-tabulate, get_or-tabulate}
use Rattle.refusal.specs.Limits.{level_cycle}
use Rattle.shape.proofs.Accepted.{shape_clear}
use Rattle.cycle.specs.Silence.{silent, heard}
use Rattle.median.proofs.Sum.{shares_sum}
use Rattle.median.proofs.Choice.{chosen_by_sums}
use Rattle.sums.specs.Memory.{IsBegun}
use Rattle.window.specs.Phase.{centre_at, phase}
use Rattle.window.specs.Ready.{IsReady}
use Rattle.window.specs.Window.{window}
use Rattle.window.proofs.Phase.{phase-at, phase-chosen, phase-none}
use Rattle.window.proofs.Window.{cycle_heard, centre_at_case, centre_at_reading}
use Rattle.lines.specs.declared.image.Image.{Image}
use Rattle.level_sums.specs.Sums.{HoldsColumnSums}
use Rattle.level_sums.proofs.ColumnLaws.{window-signed}
use Rattle.level.specs.Rows.{IsChoosable, IsChosenBy, HoldsPhases}

-- The window of row i and column j, by its centre and its sums.
module _ (image : Image) (ready : IsReady level_cycle image.shape image.readings.now) {i j : ℕ}
    (hi : i < image.shape.rows) (hj : j < image.shape.columns)
    {centre : ℕ} {sums : List ℕ} (mid : centre ≡ centre_at image.shape image.readings.now i j)
    (t : HoldsColumnSums image i j sums) where
  -- the choice can be made
  pub choosable : IsChoosable centre sums
  choosable = record {
    fits = omega (arith, t.len, shape_clear level_cycle image.shape ready.shape);
    reading = rw (t.len, mid) (centre_at_reading ready (omega arith) i j hi hj);
    signed = λ q h.
        let tick : q < image.shape.cycle = omega (arith, t.len) in
        rw (t.holds q tick) (window-signed image.shape image.readings.now ready i j hi hj q tick);
  }

  -- and what is chosen is the phase of the window
  pub chosen : (r : ℕ) → IsChosenBy centre sums r → r ≡ phase image.shape image.readings.now i j
  chosen r x = centre_at_case ready (omega arith) i j hi hj some none
    where
      -- something heard: the choice by the sums of the heard readings
      some : In (centre_at image.shape image.readings.now i j)
          (heard (window 0 image.shape image.readings.now i j))
          → centre_at image.shape image.readings.now i j < image.shape.cycle
          → r ≡ phase image.shape image.readings.now i j
      some member tick =
          let zs = heard (window 0 image.shape image.readings.now i j) in
          chosen_by_sums image.shape.cycle (centre_at image.shape image.readings.now i j) zs tick
          (slice_index sums) r
          (rw (mid, t.len) at (x.some-heard (rw (mid, t.len) tick)))
          (λ q h. t.holds q h ∙ shares_sum image.shape.cycle q
          (window 0 image.shape image.readings.now i j) (cycle_heard ready (omega arith) q h))
          ∙ sym (phase-chosen ready (omega arith) i j hi hj
          (in_some (centre_at image.shape image.readings.now i j) zs member))

      none : heard (window 0 image.shape image.readings.now i j) ≡ []
          → centre_at image.shape image.readings.now i j ≡ silent
          → r ≡ phase image.shape image.readings.now i j
      none empty e = x.none-heard (mid ∙ e) ∙ sym (phase-none ready (omega arith) i j hi hj empty)

-- a pass that has come to the end of the row has written its phases
pub row_all : (image : Image) (i : ℕ) {out₀ out : List ℕ} {j : ℕ} → IsBegun out₀ out j
    (phase image.shape image.readings.now i) → length out₀ ≡ image.shape.columns
    → image.shape.columns ≤ j → HoldsPhases image i out
row_all image i {out = out} b len h =
    ext_get_or 0 out _
    (b.len ∙ len ∙ sym (length-tabulate _ (i * image.shape.columns) image.shape.columns))
    (λ l g.
    let at : l < image.shape.columns = omega (arith, b.len) in
    b.done l (omega arith) ∙ sym (phase-at image.shape image.readings.now i l at)
    ∙ sym (get_or-tabulate _ 0 (i * image.shape.columns) image.shape.columns l at))
