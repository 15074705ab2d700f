-- SPECIFICATION, "Guarantees", of the filter: the phase at each spot of an accepted call, no closer
-- point, and the same rows by both engines. From the contract of the calls alone.
use Prim.Native.Nat.{ℕ, ◌+◌, ◌*◌, ◌≤◌, ◌<◌}
use mathlib.Core.Path.{◌≡◌, sym, ap, subst, ◌∙◌}
use mathlib.Core.List.{List, []}
use native.Mathlib.Omega.{arith}
use native.Mathlib.Nat.{mul-le-mul_right}
use lib.ListN.{length, get_or}
use Rattle.lists.specs.Members.{In}
use Rattle.lists.proofs.Written.{set_range-inside}
use Rattle.cycle.specs.Silence.{silent, heard}
use Rattle.cycle.proofs.SilenceLaws.{all_heard}
use Rattle.shape.specs.declared.Shape.{Shape}
use Rattle.shape.specs.Rules.{reach}
use Rattle.median.specs.Sum.{AreTicks}
use Rattle.median.specs.Choice.{chosen_phase}
use Rattle.median.specs.Median.{phase_of}
use Rattle.median.specs.Closest.{NoCloser, EqualIsReading}
use Rattle.window.specs.Window.{window, centre}
use Rattle.window.specs.Once.{window_once}
use Rattle.window.specs.Phase.{phase, phase_at}
use Rattle.window.specs.Ready.{IsReady}
use Rattle.window.proofs.Window.{sizes, all_heard_odd}
use Rattle.window.proofs.Once.{phase_once}
use Rattle.window.proofs.Phase.{phase-at, phase_closest, phase_equal, phase-heard, phase-none}
use Rattle.window.proofs.Phase.{phase_all_heard}
use Rattle.filter.specs.declared.Engine.{Engine}
use Rattle.filter.specs.declared.Engine.TheVariants.{Level, Reading}
use Rattle.std.proofs.Common.{Ok}
use Rattle.filter.specs.Calls.{limit, need, FilterCall, SameRows}
use Rattle.filter.proofs.CallLaws.{IsTestedImage, call-tested, call-ready, limit-fits}

-- An accepted call of an engine, and a spot of its rows.
module _ {e : Engine} {s : Shape} {first end : ℕ} {image output work output₁ work₁ : List ℕ}
    (call : FilterCall e s first end image output work (Ok tt) output₁ work₁) (i j : ℕ)
    (from : first ≤ i) (upto : i < end) (column : j < s.columns) where
  -- what its tests say
  tested : IsTestedImage s (need e s) first end image (length output) (length work)
  tested = call-tested e s first end image (length output) (length work) (sym call.answer)

  -- the spot holds the chosen phase of its window
  pub spot_filtered : get_or output₁ (i * s.columns + j) 0 ≡ phase s image i j
  spot_filtered =
      ap (λ (l : List ℕ). get_or l (i * s.columns + j) 0) call.output
      ∙ set_range-inside (phase_at s image) (first * s.columns) (end * s.columns) output
      (mul-le-mul_right s.columns tested.order)
      (omega (arith, tested.output-room, mul-le-mul_right s.columns tested.within))
      0 (i * s.columns + j) (omega (arith, mul-le-mul_right s.columns from))
      (omega (arith, mul-le-mul_right s.columns upto))
      ∙ phase-at s image i j column

  -- the image is ready for the engine
  ready : IsReady (limit e) s image
  ready = call-ready e s first end image (length output) (length work) (sym call.answer)

  -- the row lies in the image
  inside : i < s.rows
  inside = omega (arith, tested.within)

  -- where something is heard, no point of the cycle, tick or fraction, is closer to the heard
  -- readings
  pub spot_closest : 0 < length (heard (window 0 s image i j))
      → NoCloser s.cycle (heard (window 0 s image i j)) (get_or output₁ (i * s.columns + j) 0)
  spot_closest some =
      subst (NoCloser s.cycle (heard (window 0 s image i j))) (sym spot_filtered)
      (phase_closest ready (limit-fits e) i j inside column some)

  -- where an odd number is heard, a point that is as close is one of the heard readings
  pub spot_equal : (m : ℕ) → length (heard (window 0 s image i j)) ≡ 2 * m + 1
      → EqualIsReading s.cycle (heard (window 0 s image i j)) (get_or output₁ (i * s.columns + j) 0)
  spot_equal m odd =
      subst (EqualIsReading s.cycle (heard (window 0 s image i j))) (sym spot_filtered)
      (phase_equal ready (limit-fits e) i j inside column m odd)

  -- where something is heard, the phase is one of the heard readings
  pub spot_heard : 0 < length (heard (window 0 s image i j))
      → In (get_or output₁ (i * s.columns + j) 0) (heard (window 0 s image i j))
  spot_heard some = rw spot_filtered (phase-heard ready (limit-fits e) i j inside column some)

  -- where nothing is heard, the phase is silent
  pub spot_silent : heard (window 0 s image i j) ≡ []
      → get_or output₁ (i * s.columns + j) 0 ≡ silent
  spot_silent none = spot_filtered ∙ phase-none ready (limit-fits e) i j inside column none

  -- where the mask reaches out of the image by no more than the image itself, its window is the one
  -- that is mirrored once
  pub once_filtered : reach s.mask_rows ≤ s.rows → reach s.mask_columns ≤ s.columns
      → get_or output₁ (i * s.columns + j) 0
      ≡ phase_of s.cycle (centre 0 s image i j) (window_once 0 s image i j)
  once_filtered rows columns =
      spot_filtered ∙ phase_once (sizes ready (limit-fits e)) rows columns i j inside column image

  -- Where all of the window is heard, the same holds of all its readings.
  module _ (ticks : AreTicks s.cycle (window 0 s image i j)) where
    -- the heard readings are all of them
    all : heard (window 0 s image i j) ≡ window 0 s image i j
    all = all_heard s.cycle (window 0 s image i j)
        (omega (arith, (sizes ready (limit-fits e)).cycle_fits, limit-fits e)) ticks

    -- and their number is odd
    odd : (m : ℕ) × (length (heard (window 0 s image i j)) ≡ 2 * m + 1)
    odd = all_heard_odd ready (limit-fits e) i j inside column ticks

    -- the phase is the one chosen among all ticks of the cycle
    pub all_heard_filtered : get_or output₁ (i * s.columns + j) 0
        ≡ chosen_phase s.cycle (centre 0 s image i j) (window 0 s image i j)
    all_heard_filtered =
        spot_filtered ∙ phase_all_heard ready (limit-fits e) i j inside column ticks

    -- no point of the cycle is closer to the readings of the window
    pub all_heard_closest : NoCloser s.cycle (window 0 s image i j)
        (get_or output₁ (i * s.columns + j) 0)
    all_heard_closest =
        subst (λ (zs : List ℕ). NoCloser s.cycle zs (get_or output₁ (i * s.columns + j) 0)) all
        (spot_closest (omega (arith, odd.1)))

    -- and a point that is as close is one of them
    pub all_heard_equal : EqualIsReading s.cycle (window 0 s image i j)
        (get_or output₁ (i * s.columns + j) 0)
    all_heard_equal = subst (λ (zs : List ℕ). EqualIsReading s.cycle zs
        (get_or output₁ (i * s.columns + j) 0)) all (spot_equal odd.0 odd.1)

-- Both engines write the same rows of one image, whatever output and work memory each was lent, of
-- any lengths and contents.
pub same_rows : {s : Shape} {first end : ℕ}
    {image output work output₁ work₁ other room other₁ room₁ : List ℕ}
    → FilterCall Level s first end image output work (Ok tt) output₁ work₁
    → FilterCall Reading s first end image other room (Ok tt) other₁ room₁
    → SameRows s first end output₁ other₁
same_rows level reading i j from upto column =
    spot_filtered level i j from upto column ∙ sym (spot_filtered reading i j from upto column)
