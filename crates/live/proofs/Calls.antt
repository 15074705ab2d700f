-- What the code of the live window's calls does is what the calls promise.
use Rattle.std.proofs.Common.{ℕ, ◌+◌, ◌<◌, min, ◌≡◌, refl, ap, sym, ◌∙◌, true, List, [], ◌∷◌, ◌++◌}
use Rattle.std.proofs.Common.{arith, lt-ltb, le-ltb, length, get_or, take, drop, Result, Ok, Err}
use Rattle.std.proofs.Common.{replicate, length-append}
use native.Mathlib.Decide.{dec_lt}
use Rattle.lists.specs.Members.{Each}
use Rattle.lists.proofs.Members.{each_append}
use Rattle.lists.proofs.Tabulate.{length-tabulate, take-tabulate}
use Rattle.refusal.specs.Limits.{live_length}
use Rattle.refusal.specs.declared.Refusal.{Refusal}
use Rattle.refusal.specs.Outcome.{IsClear, refusal, outcome, after}
use Rattle.refusal.specs.Outcome.Outcome.{accepted}
use Rattle.refusal.proofs.Outcome.{not_refused, clear_accepted, handed_alone, outcome_of}
use Rattle.refusal.proofs.Outcome.{after-refused}
use Rattle.cycle.specs.Silence.{silent, is_reading}
use Rattle.median.specs.Median.{phase_of}
use Rattle.live.specs.declared.LiveWindow.{LiveWindow}
use Rattle.live.specs.declared.Live.{Live}
use Rattle.live.specs.Window.{reading_at, sum_of, live_phase, result_by, result_after, readings_of}
use Rattle.live.specs.Window.{sums_of, window_of, live_after}
use Rattle.live.specs.Calls.{window_rules, push_rules, fresh_due, push_due, whether_accepted}
use Rattle.live.specs.Calls.{HasHistory, FreshCall, PushCall}
use Rattle.live.specs.Passes.{HasSums, middle_of, entered_reading, entered_sum}
use Rattle.live.proofs.Sizes.{Sizes, push_clear}
use Rattle.live.proofs.Sliding.{window_readings, window_sums}
use Rattle.live.proofs.Arrays.{all_one, fresh_reading, fresh_sum, readings_entered, sums_entered}
use Rattle.live.proofs.Arrays.{readings_array, sums_array}
use Rattle.live.proofs.Found.{history-sums, history-phase}

-- a window with nothing pushed is the one after no history
pub empty_window : (c t : ℕ)
    → window_of c t 0 (replicate live_length silent) (replicate live_length 0) ≡ live_after c t []
unfolding live_after
empty_window c t =
    let nothing : 0 ≡ min 0 t = omega arith in
    let readings = all_one silent (reading_at t []) (fresh_reading t) in
    let sums = all_one 0 (sum_of c t []) (fresh_sum c t) in
    cc

-- a window with a history has the cycle and the length of that history
pub live_own : {c t : ℕ} {history : List ℕ} {w : LiveWindow} → HasHistory c t history w
    → (w.cycle ≡ c) × (w.length ≡ t)
unfolding live_after
live_own l = (ap (λ (w : LiveWindow). w.cycle) l.is, ap (λ (w : LiveWindow). w.length) l.is)

-- a window is made fresh, by what its tests say
pub fresh_call : {c t : ℕ} {old w₁ : LiveWindow} {r : Result Unit Refusal}
    → outcome r ≡ outcome_of (window_rules c t)
    → w₁ ≡ after (outcome r) (λ u. live_after c t []) old → FreshCall c t old r w₁
unfolding fresh_due
fresh_call answer-is is = record { answer = answer-is; window = is }

-- a push that is refused
pub push_refused : (w : LiveWindow) (x : ℕ) {f : Refusal} {r : Result Live Refusal}
    → refusal f ≡ outcome_of (push_rules w.cycle w.length x) → r ≡ Err f → PushCall w x r w
unfolding push_due
push_refused w x answer-is e = record {
  tests = ap (λ (r : Result Live Refusal). whether_accepted (outcome r)) e ∙ answer-is;
  numbers = (refl, refl);
  unchanged = λ n k e. refl;
  answer = λ c t history l.
      let own = live_own l in
      rw (← own.0, ← own.1) (handed_alone (push_rules w.cycle w.length x)
      (result_after w.cycle w.length (history ++ (x ∷ []))) answer-is e);
  window = λ c t history l. sym (after-refused _ w (ap outcome e));
}

-- the count says whether the window is still filling
result-after : (c t n filled : ℕ) (history : List ℕ) → length history ≡ n → filled ≡ min n t
    → result_by t filled (live_phase c t history) ≡ result_after c t history
unfolding result_after
result-after c t n filled history len e = go (dec_lt n t)
  where
    go : Dec (n < t) → result_by t filled (live_phase c t history)
        ≡ result_by t (length history) (live_phase c t history)
    go (yes h) = rw (lt-ltb filled t (omega arith), lt-ltb (length history) t (omega arith))
    go (no h) = rw (le-ltb filled t (omega arith), le-ltb (length history) t (omega arith))

-- What the code of an accepted push leaves in the parts of the arrays that the window takes, in the
-- count and in the answer.
pub record EnteredBy (c t filled x : ℕ) (readings sums : List ℕ) (live : Live) (filled₁ : ℕ)
    (readings₁ sums₁ : List ℕ) : Type 0 where
  pub tested : IsClear (push_rules c t x)
  pub readings_long : length readings₁ ≡ t
  pub sums_long : length sums₁ ≡ t
  pub into_readings : (k : ℕ) → k < length readings₁
      → get_or readings₁ k 0 ≡ entered_reading x (take t readings) k
  pub into_sums : (k : ℕ) → k < length sums₁
      → get_or sums₁ k 0 ≡ entered_sum c x (take t readings) (take t sums) k
  pub count : filled₁ ≡ min (filled + 1) t
  pub answer : HasSums c readings₁ sums₁
      → live ≡ result_by (length readings₁) filled₁ (phase_of c (middle_of readings₁) readings₁)

module _ {c t filled x : ℕ} {readings sums : List ℕ} {live : Live} {filled₁ : ℕ}
    {readings₁ sums₁ : List ℕ}
    (e : EnteredBy c t filled x readings sums live filled₁ readings₁ sums₁) where
  -- A window with a history becomes the one with the reading added.
  module _ (history : List ℕ)
      (l : HasHistory c t history (window_of c t filled readings sums)) where
    -- the longer history
    abbrev more : List ℕ
    more = history ++ (x ∷ [])

    -- the sizes have passed their tests
    sizes : Sizes c t
    sizes = (push_clear c t x e.tested).0

    -- what is pushed is a reading
    reads : is_reading c x ≡ true
    reads = (push_clear c t x e.tested).1

    -- all readings of the longer history are readings
    good : Each (λ z. is_reading c z ≡ true) more
    good = each_append (λ z. is_reading c z ≡ true) history (x ∷ []) l.readings (reads, tt)

    -- the count that the window had
    filled_was : filled ≡ min (length history) t
    unfolding live_after
    filled_was = ap (λ (w : LiveWindow). w.filled) l.is

    -- the readings that it had
    readings_were : readings ≡ readings_of t history
    unfolding live_after
    readings_were = ap (λ (w : LiveWindow). w.readings) l.is

    -- the sums that it had
    sums_were : sums ≡ sums_of c t history
    unfolding live_after
    sums_were = ap (λ (w : LiveWindow). w.sums) l.is

    -- the readings of the part that the window took
    readings_held : take t readings ≡ window_readings t history
    readings_held =
        rw readings_were (take-tabulate (reading_at t history) 0 t live_length sizes.fits)

    -- the sums of that part
    sums_held : take t sums ≡ window_sums c t history
    sums_held = rw sums_were (take-tabulate (sum_of c t history) 0 t live_length sizes.fits)

    -- the new readings are those of the longer history
    readings_now : readings₁ ≡ window_readings t more
    readings_now = readings_entered c t history x sizes l.readings reads e.readings_long
        (rw readings_held at e.into_readings)

    -- the new sums are those of the longer history
    sums_now : sums₁ ≡ window_sums c t more
    sums_now = sums_entered c t history x sizes l.readings reads e.sums_long
        (rw (readings_held, sums_held) at e.into_sums)

    -- the longer history has one reading more
    length_more : length more ≡ length history + 1
    length_more = length-append history (x ∷ [])

    -- its new count
    filled_now : filled₁ ≡ min (length history + 1) t
    filled_now = omega (arith, e.count, filled_was)

    -- so it is the window after the longer history
    window_now : window_of c t filled₁ (readings₁ ++ drop t readings) (sums₁ ++ drop t sums)
        ≡ live_after c t more
    unfolding live_after
    window_now =
        rw (
          readings_now,
          sums_now,
          readings_were,
          sums_were,
          readings_array c t history x sizes l.readings reads,
          sums_array c t history x sizes l.readings reads,
          filled_now,
          length_more,
        )

    -- and the answer is the one that is due
    live_now : live ≡ result_after c t more
    live_now =
        e.answer (rw (readings_now, sums_now) (history-sums c t more good))
        ∙ rw (readings_now, history-phase c t more sizes.some, length-tabulate (reading_at t more) 0 t)
        (result-after c t (length history + 1) filled₁ more length_more filled_now)

  -- a push that is accepted keeps what the call promises
  pub push_passed : PushCall (window_of c t filled readings sums) x (Ok live)
      (window_of c t filled₁ (readings₁ ++ drop t readings) (sums₁ ++ drop t sums))
  unfolding push_due
  push_passed = record {
    tests = sym (clear_accepted tt (push_rules c t x) e.tested);
    numbers = (refl, refl);
    unchanged = λ n k answer-is. not_refused answer-is;
    answer = λ c' t' history l.
        let own = live_own l in
        rw (← own.0, ← own.1)
        (ap accepted (live_now history (rw (← own.0, ← own.1) at l)) ∙ sym
        (clear_accepted (result_after c t (history ++ (x ∷ []))) (push_rules c t x) e.tested));
    window = λ c' t' history l.
        let own = live_own l in
        rw (← own.0, ← own.1) (window_now history (rw (← own.0, ← own.1) at l));
  }
