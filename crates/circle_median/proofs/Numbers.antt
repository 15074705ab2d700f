-- No test has the number 0, so an exported function that answers 0 gives the result of an accepted
-- call, and what is proved of accepted calls holds of it. From the contracts of the exported
-- functions alone.
use Prim.Native.Nat.{ℕ}
use mathlib.Core.Path.{◌≡◌, refl, ap, sym, ◌∙◌}
use mathlib.Core.Bool.{true, cond}
use mathlib.Core.List.{List, [], ◌∷◌, ◌++◌}
use native.Mathlib.Omega.{arith}
use lib.IntN.{ℤ, pos}
use lib.ListN.{length}
use Rattle.lists.proofs.Keep.{passes_or_not}
use Rattle.refusal.specs.Outcome.{Outcome, Rule, first_due, outcome, IsClear, IsNumbered}
use Rattle.refusal.specs.Outcome.Outcome.{accepted, refused}
use Rattle.refusal.proofs.Outcome.{accepted_clear, accepted_value}
use Rattle.refusal.proofs.Order.{due_numbered}
use Rattle.cycle.specs.Distance.{distance}
use Rattle.cycle.specs.Step.{step, drift, in_slot}
use Rattle.cycle.specs.Calls.{pair_rules, slot_rules, row_rules, distance_due, step_due, slot_due}
use Rattle.cycle.specs.Calls.{drift_due}
use Rattle.cycle.proofs.Order.{pair_numbered, slot_numbered, row_numbered}
use Rattle.shape.specs.declared.Shape.{Shape}
use Rattle.filter.specs.declared.Engine.{Engine}
use Rattle.filter.specs.declared.Engine.TheVariants.{Level, Reading}
use Rattle.std.proofs.Common.{Ok}
use Rattle.filter.specs.Calls.{filter_rules, filter_due, FilterCall, SameRows}
use Rattle.filter.proofs.Order.{filter_numbered}
use Rattle.filter.proofs.Guarantees.{same_rows}
use Rattle.cycle.specs.Silence.{is_reading}
use Rattle.live.specs.declared.LiveWindow.{LiveWindow}
use Rattle.live.specs.declared.Live.{Live}
use Rattle.live.specs.Window.{result_after}
use Rattle.live.specs.Calls.{window_rules, push_rules, fresh_due, whether_accepted, HasHistory}
use Rattle.live.specs.Calls.{FreshCall}
use Rattle.live.proofs.Order.{window_numbered, push_numbered}
use Rattle.live.proofs.Pushes.{push-accepted, accepted_history, push-refused}
use Rattle.record_format.specs.Record.{record_length, write_rules, write_due}
use Rattle.record_format.specs.Reading.{shape_in, read_rules, read_due}
use Rattle.record_format.proofs.Order.{write_numbered, read_numbered}
use Rattle.record.specs.Calls.{ReadCall, WriteCall}
use Rattle.circle_median.specs.declared.answers.Answer.{Answer}
use Rattle.circle_median.specs.declared.answers.ValueAnswer.{ValueAnswer}
use Rattle.circle_median.specs.declared.answers.RecordAnswer.{RecordAnswer}
use Rattle.circle_median.specs.declared.answers.WindowAnswer.{WindowAnswer}
use Rattle.circle_median.specs.Answers.{answer_of, value_of, record_of, natural_value, flag_value}
use Rattle.circle_median.specs.Answers.{live_value, live_outcome}
use Rattle.circle_median.specs.Calls.{ExportedFilterCall, ExportedWriteCall, ExportedReadCall}
use Rattle.circle_median.specs.Calls.{ExportedFreshCall, ExportedPushCall}

-- Of any answer that gives a refusal's number: where no test has the number 0, an answer with the
-- number 0 is that of an accepted call.
module _ {A B : Type 0} (tell : Outcome A → B) (number : B → ℕ)
    (tells : (n k : ℕ) → number (tell (refused n k)) ≡ n) (v : A) (rs : List Rule)
    (numbered : IsNumbered rs) {r : B} (is : r ≡ tell (first_due rs v)) (zero : number r ≡ 0) where
  -- the tests are accepted
  zero_accepted : first_due rs v ≡ accepted v
  zero_accepted = go (first_due rs v) refl
    where
      go : (o : Outcome A) → first_due rs v ≡ o → first_due rs v ≡ accepted v
      go (accepted w) answer-is = answer-is ∙ ap accepted (accepted_value v rs w answer-is)
      go (refused n k) answer-is =
          let n-is : number r ≡ n = ap number (is ∙ ap tell answer-is) ∙ tells n k in
          absurd (omega (arith, zero, n-is, due_numbered v rs numbered answer-is))

module _ {e : Engine} {s : Shape} {first end : ℕ} {image output work output₁ work₁ : List ℕ}
    {r : Answer}
    (call : ExportedFilterCall e s first end image output work r output₁ work₁) where
  -- a filter that answers 0 is an accepted call
  pub number_zero : r.number ≡ 0 → FilterCall e s first end image output work (Ok tt) output₁ work₁
  unfolding filter_due
  number_zero zero =
      let rs = filter_rules e s first end image (length output) (length work) in
      let numbered = filter_numbered e s first end image (length output) (length work) in
      let answer-is =
      zero_accepted answer_of (λ a. a.number) (λ n k. refl) tt rs numbered call.answer zero in
      record {
        answer = sym answer-is;
        output = rw answer-is at call.output;
        work =
            rw answer-is at call.work;
      }

-- Two filters that answer 0 on one shape, image and range have written the same rows.
pub exported_same_rows : {s : Shape} {first end : ℕ}
    {image output work output₁ work₁ other room other₁ room₁ : List ℕ} {r q : Answer}
    → ExportedFilterCall Level s first end image output work r output₁ work₁ → r.number ≡ 0
    → ExportedFilterCall Reading s first end image other room q other₁ room₁ → q.number ≡ 0
    → SameRows s first end output₁ other₁
exported_same_rows level zero reading nought =
    same_rows (number_zero level zero) (number_zero reading nought)

-- where a call with a value answers 0, the value is that of the accepted call
value_zero : {A : Type 0} (tell : Outcome A → Outcome ℤ)
    (tells : (n k : ℕ) → (value_of (tell (refused n k))).number ≡ n) (v : A) (rs : List Rule)
    → IsNumbered rs → {r : ValueAnswer} → r ≡ value_of (tell (first_due rs v)) → r.number ≡ 0
    → r.value ≡ (value_of (tell (accepted v))).value
value_zero {A} tell tells v rs numbered is zero =
    let answer-is =
    zero_accepted (λ o. value_of (tell o)) (λ a. a.number) tells v rs numbered is zero in
    ap (λ (a : ValueAnswer). a.value) (is ∙ ap (λ (o : Outcome A). value_of (tell o)) answer-is)

module _ {r : ValueAnswer} (c : ℕ) where
  -- the distance
  pub distance_zero : (a b : ℕ) → r ≡ value_of (natural_value (distance_due c a b)) → r.number ≡ 0
      → r.value ≡ pos (distance c a b)
  unfolding distance_due
  distance_zero a b = value_zero natural_value (λ n k. refl) (distance c a b) (pair_rules c a b)
      (pair_numbered c a b)

  -- the signed step
  pub step_zero : (a b : ℕ) → r ≡ value_of (step_due c a b) → r.number ≡ 0 → r.value ≡ step c a b
  unfolding step_due
  step_zero a b =
      value_zero (λ o. o) (λ n k. refl) (step c a b) (pair_rules c a b) (pair_numbered c a b)

  -- 1 inside the slot, and else 0
  pub slot_zero : (p s w : ℕ) → r ≡ value_of (flag_value (slot_due c p s w)) → r.number ≡ 0
      → r.value ≡ cond (in_slot c s w p) (pos 1) (pos 0)
  unfolding slot_due
  slot_zero p s w = value_zero flag_value (λ n k. refl) (in_slot c s w p) (slot_rules c p s w)
      (slot_numbered c p s w)

  -- the drift
  pub drift_zero : (row : List ℕ) → r ≡ value_of (drift_due c row) → r.number ≡ 0
      → r.value ≡ drift c row
  unfolding drift_due
  drift_zero row =
      value_zero (λ o. o) (λ n k. refl) (drift c row) (row_rules c row) (row_numbered c row)

-- a writer that answers 0 has written the record, and its value is the record's length
pub write_zero : {s : Shape} {readings bytes : List ℕ} {r : ValueAnswer} {bytes' : List ℕ}
    → ExportedWriteCall s readings bytes r bytes' → r.number ≡ 0
    → WriteCall s readings bytes (Ok (record_length s)) bytes' × (r.value ≡ pos (record_length s))
unfolding write_due
write_zero {s} {readings} {bytes} call zero =
    let rs = write_rules s readings (length bytes) in
    let numbered = write_numbered s readings (length bytes) in
    let answer-is = zero_accepted (λ o. value_of (natural_value o)) (λ a. a.number) (λ n k. refl)
    (record_length s) rs numbered call.answer zero in (
      record { answer = sym answer-is; memory = call.memory },
      value_zero natural_value (λ n k. refl) (record_length s) rs numbered call.answer zero,
    )

-- a reader that answers 0 has read the record, and its five numbers are the record's
pub read_zero : {bytes buffer : List ℕ} {r : RecordAnswer} {buffer' : List ℕ}
    → ExportedReadCall bytes buffer r buffer' → r.number ≡ 0
    → ReadCall bytes buffer (Ok (shape_in bytes)) buffer'
    × (r ≡ record_of (accepted (shape_in bytes)))
unfolding read_due
read_zero {bytes} {buffer} call zero =
    let rs = read_rules bytes (length buffer) in
    let answer-is = zero_accepted record_of (λ a. a.number) (λ n k. refl) (shape_in bytes) rs
    (read_numbered bytes (length buffer)) call.answer zero in
    (record { answer = sym answer-is; memory = call.memory }, call.answer ∙ ap record_of answer-is)

-- a live window made fresh with the number 0 is one of an accepted call
pub window_fresh_zero : {c t : ℕ} {w : LiveWindow} {r : Answer} {w₁ : LiveWindow}
    → ExportedFreshCall c t w r w₁ → r.number ≡ 0 → FreshCall c t w (Ok tt) w₁
unfolding fresh_due
window_fresh_zero {c} {t} call zero =
    let answer-is = zero_accepted answer_of (λ a. a.number) (λ n k. refl) tt (window_rules c t)
    (window_numbered c t) call.answer zero in
    record { answer = sym answer-is; window = rw answer-is at call.window }

-- a push that answers 0 was accepted, whatever the window: no test is due
pub window_push_clear : {w : LiveWindow} {x : ℕ} {r : WindowAnswer} {w₁ : LiveWindow}
    → ExportedPushCall w x r w₁ → r.number ≡ 0
    → IsClear (push_rules w.cycle w.length x)
window_push_clear {w} {x} {r} call zero = go (outcome call.result) refl
  where
    -- the tests of the push
    rs : List Rule
    rs = push_rules w.cycle w.length x

    go : (o : Outcome Live) → outcome call.result ≡ o → IsClear (push_rules w.cycle w.length x)
    go (accepted v) answer-is =
        accepted_clear tt rs tt (sym call.call.tests ∙ ap whether_accepted answer-is)
    go (refused n k) answer-is =
        let n-is : r.number ≡ n = ap (λ (a : WindowAnswer). a.number) call.answer
        ∙ ap (λ (o : Outcome Live). (value_of (live_outcome o)).number) answer-is in
        let due : first_due rs tt ≡ refused n k =
        sym call.call.tests ∙ ap whether_accepted answer-is in
        absurd (omega
        (arith, zero, n-is, due_numbered tt rs (push_numbered w.cycle w.length x) due))

-- A push that answers 0, into a window with a history.
module _ {c t : ℕ} {history : List ℕ} {w : LiveWindow} {x : ℕ} {r : WindowAnswer} {w₁ : LiveWindow}
    (ours : HasHistory c t history w)
    (call : ExportedPushCall w x r w₁) (zero : r.number ≡ 0) where
  -- what was pushed is a reading
  reads : is_reading c x ≡ true
  reads = passes_or_not (is_reading c) x (λ e. e) (λ e.
      let number-is : r.number ≡ 9 =
      ap (λ (a : WindowAnswer). a.number) call.answer ∙ ap (λ (o : Outcome Live).
      (value_of (live_outcome o)).number) (push-refused ours call.call e) in
      absurd (omega arith))

  -- the value is that of the longer history, which the window has now
  pub window_push_zero : (r.value ≡ live_value (result_after c t (history ++ (x ∷ []))))
      × HasHistory c t (history ++ (x ∷ [])) w₁
  window_push_zero = (
    ap (λ (a : WindowAnswer). a.value) call.answer ∙ ap (λ (o : Outcome Live).
        (value_of (live_outcome o)).value) (push-accepted ours call.call reads),
    accepted_history ours call.call reads,
  )
