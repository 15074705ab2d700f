-- Any number of pushes into a window with a history: it holds the readings that were accepted, and
-- each is answered by those before it. From the contracts of the calls alone.
use Rattle.std.proofs.Common.{ℕ, zero, suc, ◌<◌, ◌≡◌, ap, sym, ◌∙◌, true, false, List, [], ◌∷◌}
use Rattle.std.proofs.Common.{◌++◌, append_assoc, append-nil, arith, length, get_or, take, Result}
use Rattle.std.proofs.Common.{Ok}
use Rattle.lists.specs.Keep.{keep}
use Rattle.lists.proofs.Members.{each_append}
use Rattle.lists.proofs.Keep.{passes_or_not}
use Rattle.refusal.specs.declared.Refusal.{Refusal}
use Rattle.refusal.specs.Outcome.{Outcome, first_due, IsClear, outcome, after}
use Rattle.refusal.specs.Outcome.Outcome.{accepted, refused}
use Rattle.refusal.proofs.Outcome.{accepted_clear, clear_accepted, after_clear, clear_join}
use Rattle.cycle.specs.Silence.{is_reading}
use Rattle.live.specs.declared.LiveWindow.{LiveWindow}
use Rattle.live.specs.declared.Live.{Live}
use Rattle.live.specs.Window.{result_after, live_after}
use Rattle.cycle.specs.Calls.{reading_rule}
use Rattle.live.specs.Calls.{window_rules, push_rules, fresh_due, push_due, HasHistory, FreshCall}
use Rattle.live.specs.Calls.{PushCall}
use Rattle.live.specs.Pushes.{Pushes}
use Rattle.live.specs.Pushes.Pushes.{done, next}
use Rattle.live.proofs.Calls.{live_own}

-- a new window that was accepted has the empty history
pub fresh_history : {c t : ℕ} {old w : LiveWindow} → FreshCall c t old (Ok tt) w
    → HasHistory c t [] w
unfolding fresh_due
fresh_history {c} {t} call = record {
  tested =
      accepted_clear tt (window_rules c t) tt (sym call.answer);
  readings = tt;
  is = call.window;
}

-- a window with a history is reset, and then has the empty one, of the same cycle and length
pub reset_history : {c t : ℕ} {history : List ℕ} {w w₁ : LiveWindow} {r : Result Unit Refusal}
    → HasHistory c t history w → FreshCall w.cycle w.length w r w₁
    → (outcome r ≡ accepted tt) × HasHistory c t [] w₁
unfolding fresh_due
reset_history {c} {t} {w = w} {r = r} l call =
    let own = live_own l in
    let answer-is : outcome r ≡ accepted tt =
    call.answer ∙ rw (own.0, own.1) (clear_accepted tt (window_rules c t) l.tested) in
    let made : _ ≡ live_after w.cycle w.length [] = call.window
    ∙ ap (λ (o : Outcome Unit). after o (λ u. live_after w.cycle w.length []) w) answer-is in
    (answer-is, record { tested = l.tested; readings = tt; is = made ∙ rw (own.0, own.1) })

-- What is due to a reading, and to what is none.
module _ (c t : ℕ) (history : List ℕ) (x : ℕ) (tested : IsClear (window_rules c t)) where
  -- a reading is accepted
  pub push_due_accepted : is_reading c x ≡ true
      → push_due c t history x ≡ accepted (result_after c t (history ++ (x ∷ [])))
  unfolding push_due
  push_due_accepted reads =
      clear_accepted (result_after c t (history ++ (x ∷ []))) (push_rules c t x)
      (clear_join (window_rules c t) (reading_rule c x 0 ∷ []) tested (rw reads, tt))

  -- what is no reading is refused by 9 at place 0
  pub push_due_refused : is_reading c x ≡ false → push_due c t history x ≡ refused 9 0
  unfolding push_due first_due
  push_due_refused none = after_clear (result_after c t (history ++ (x ∷ []))) (window_rules c t)
      (reading_rule c x 0 ∷ []) tested ∙ rw none

module _ {c t : ℕ} {history : List ℕ} {w : LiveWindow} {x : ℕ} {r : Result Live Refusal}
    {w₁ : LiveWindow} (l : HasHistory c t history w) (call : PushCall w x r w₁) where
  -- A reading is pushed.
  module _ (reads : is_reading c x ≡ true) where
    -- the answer is the one after the longer history
    pub push-accepted : outcome r ≡ accepted (result_after c t (history ++ (x ∷ [])))
    push-accepted = call.answer c t history l ∙ push_due_accepted c t history x l.tested reads

    -- and the window has that history
    pub accepted_history : HasHistory c t (history ++ (x ∷ [])) w₁
    accepted_history = record {
      tested = l.tested;
      readings = each_append (λ z. is_reading c z ≡ true) history (x ∷ []) l.readings (reads, tt);
      is = call.window c t history l ∙ ap (λ (o : Outcome Live). after o
          (λ u. live_after c t (history ++ (x ∷ []))) w) push-accepted;
    }

  -- What is no reading is pushed.
  module _ (no_reading : is_reading c x ≡ false) where
    -- the answer is 9 at place 0
    pub push-refused : outcome r ≡ refused 9 0
    push-refused = call.answer c t history l ∙ push_due_refused c t history x l.tested no_reading

    -- and the window is as before
    pub refused_kept : w₁ ≡ w
    refused_kept = call.window c t history l ∙ ap
        (λ (o : Outcome Live). after o (λ u. live_after c t (history ++ (x ∷ []))) w) push-refused

-- the window after any pushes has the accepted readings added to its history
pub pushes_history : {c t : ℕ} {history : List ℕ} {w w₁ : LiveWindow} {xs : List ℕ}
    {rs : List (Result Live Refusal)} → HasHistory c t history w → Pushes w xs rs w₁
    → HasHistory c t (history ++ keep (is_reading c) xs) w₁
unfolding keep
pushes_history {history = history} l done = rw (append-nil history) l
pushes_history {c} {t} {history} {w} {w₁} l (next {x = x} {xs = xs} call rest) =
    passes_or_not (is_reading c) x
    (λ e. rw (e, ← (append_assoc history (x ∷ []) (keep (is_reading c) xs)))
    (pushes_history (accepted_history l call e) rest))
    (λ e. rw e (pushes_history (rw (sym (refused_kept l call e)) at l) rest))

-- each answer is the one that is due after the readings accepted before it
pub answer_of_push : {c t : ℕ} {history : List ℕ} {w w₁ : LiveWindow} {xs : List ℕ}
    {rs : List (Result Live Refusal)} → HasHistory c t history w → Pushes w xs rs w₁
    → (k : ℕ) (d : Result Live Refusal) → k < length xs
    → outcome (get_or rs k d)
    ≡ push_due c t (history ++ keep (is_reading c) (take k xs)) (get_or xs k 0)
unfolding keep
answer_of_push l done k d h = absurd (omega arith)
answer_of_push {c} {t} {history} l (next {x = x} call rest) zero d h =
    call.answer c t history l ∙ ap (λ (p : List ℕ). push_due c t p x) (sym (append-nil history))
answer_of_push {c} {t} {history} l (next {x = x} {xs = xs} call rest) (suc k) d h =
    passes_or_not (is_reading c) x
    (λ e. rw (e, ← (append_assoc history (x ∷ []) (keep (is_reading c) (take k xs))))
    (answer_of_push (accepted_history l call e) rest k d (omega arith)))
    (λ e. rw e (answer_of_push (rw (sym (refused_kept l call e)) at l) rest k d (omega arith)))
