-- What the calls of the live window answer, and the window that they hand back:
-- SPECIFICATION, "Live window" and "Order of tests".
use Rattle.std.specs.Prelude.{ℕ, ◌≡◌, true, List, [], ◌∷◌, ◌++◌, Result}
use Rattle.lists.specs.Members.{Each}
use Rattle.refusal.specs.Limits.{live_cycle, live_length}
use Rattle.refusal.specs.declared.Refusal.{Refusal}
use Rattle.refusal.specs.Outcome.{Outcome, Rule, first_due, IsClear, outcome, and_then, after}
use Rattle.refusal.specs.Outcome.Outcome.{accepted, refused}
use Rattle.cycle.specs.Calls.{cycle_rules, reading_rule}
use Rattle.cycle.specs.Silence.{is_reading}
use Rattle.shape.specs.Rules.{side_rules}
use Rattle.live.specs.declared.LiveWindow.{LiveWindow}
use Rattle.live.specs.declared.Live.{Live}
use Rattle.live.specs.Window.{result_after, live_after}

-- the tests of a window: 1 of the cycle, then 3 of the length
abbrev pub window_rules : ℕ → ℕ → List Rule
window_rules c t = cycle_rules live_cycle c ++ side_rules live_length t

-- the tests of a push: those of the window's own numbers, then 9 of the reading
abbrev pub push_rules : ℕ → ℕ → ℕ → List Rule
push_rules c t x = window_rules c t ++ (reading_rule c x 0 ∷ [])

-- what the creation and the reset of a window answer
unfoldable pub fresh_due : ℕ → ℕ → Outcome Unit
fresh_due c t = first_due (window_rules c t) tt

-- what a reading x is answered after a history
unfoldable pub push_due : ℕ → ℕ → List ℕ → ℕ → Outcome Live
push_due c t history x = first_due (push_rules c t x) (result_after c t (history ++ (x ∷ [])))

-- whether a push was accepted, and else its refusal
abbrev pub whether_accepted : Outcome Live → Outcome Unit
whether_accepted o = and_then o (λ u. accepted tt)

-- w is the window of cycle c and length t that was fresh and has accepted this history since
pub record HasHistory (c t : ℕ) (history : List ℕ) (w : LiveWindow) : Type 0 where
  pub tested : IsClear (window_rules c t)
  pub readings : Each (λ x. is_reading c x ≡ true) history
  pub is : w ≡ live_after c t history

-- w₁ is made a fresh window of cycle c and length t; if that is refused, it is the old one
pub record FreshCall (c t : ℕ) (old : LiveWindow) (r : Result Unit Refusal)
    (w₁ : LiveWindow) : Type 0 where
  pub answer : outcome r ≡ fresh_due c t
  pub window : w₁ ≡ after (outcome r) (λ u. live_after c t []) old

-- the window of a refused creation: of cycle 0, which every push refuses by 1
abbrev pub no_window : LiveWindow
no_window = live_after 0 0 []

-- Reading x is pushed into window w, which becomes w₁. Of every window: it is accepted or refused
-- by the tests on the window's own numbers, which stay, and a refusal changes nothing. Of one with
-- a history: answer and window are those of the history with the reading added.
pub record PushCall (w : LiveWindow) (x : ℕ) (r : Result Live Refusal)
    (w₁ : LiveWindow) : Type 0 where
  pub tests : whether_accepted (outcome r) ≡ first_due (push_rules w.cycle w.length x) tt
  pub numbers : (w₁.cycle ≡ w.cycle) × (w₁.length ≡ w.length)
  pub unchanged : (n k : ℕ) → outcome r ≡ refused n k → w₁ ≡ w
  pub answer : (c t : ℕ) (history : List ℕ) → HasHistory c t history w
      → outcome r ≡ push_due c t history x
  pub window : (c t : ℕ) (history : List ℕ) → HasHistory c t history w
      → w₁ ≡ after (outcome r) (λ u. live_after c t (history ++ (x ∷ []))) w
