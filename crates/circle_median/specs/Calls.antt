-- What the exported filters, writer, reader and live window promise: the answer in numbers, and all
-- of the lent memory before the call (₀) and after it (₁).
use Rattle.std.specs.Prelude.{ℕ, ◌≡◌, List, [], length, Result}
use Rattle.lists.specs.Front.{at_front}
use Rattle.refusal.specs.Outcome.{after, outcome}
use Rattle.refusal.specs.declared.Refusal.{Refusal}
use Rattle.shape.specs.declared.Shape.{Shape}
use Rattle.filter.specs.declared.Engine.{Engine}
use Rattle.filter.specs.Calls.{filter_due, filtered_rows, zeroed_work}
use Rattle.live.specs.declared.LiveWindow.{LiveWindow}
use Rattle.live.specs.declared.Live.{Live}
use Rattle.live.specs.Window.{live_after}
use Rattle.live.specs.Calls.{fresh_due, PushCall}
use Rattle.record_format.specs.Record.{record_bytes, write_due}
use Rattle.record_format.specs.Reading.{image_in, read_due}
use Rattle.circle_median.specs.declared.answers.Answer.{Answer}
use Rattle.circle_median.specs.declared.answers.ValueAnswer.{ValueAnswer}
use Rattle.circle_median.specs.declared.answers.RecordAnswer.{RecordAnswer}
use Rattle.circle_median.specs.declared.answers.WindowAnswer.{WindowAnswer}
use Rattle.circle_median.specs.Answers.{answer_of, value_of, record_of, natural_value, live_outcome}
use Rattle.circle_median.specs.Answers.{window_answer_of}

-- a filter
pub record ExportedFilterCall (e : Engine) (s : Shape) (first end : ℕ)
    (image output₀ work₀ : List ℕ) (r : Answer) (output₁ work₁ : List ℕ) : Type 0 where
  pub answer : r ≡ answer_of (filter_due e s first end image (length output₀) (length work₀))
  pub output : output₁ ≡ after (filter_due e s first end image (length output₀) (length work₀))
      (λ u. filtered_rows s first end image output₀) output₀
  pub work : work₁ ≡ after (filter_due e s first end image (length output₀) (length work₀))
      (λ u. zeroed_work e s work₀) work₀

-- the writer
pub record ExportedWriteCall (s : Shape) (readings bytes₀ : List ℕ) (r : ValueAnswer)
    (bytes₁ : List ℕ) : Type 0 where
  pub answer : r ≡ value_of (natural_value (write_due s readings (length bytes₀)))
  pub memory : bytes₁ ≡ after (write_due s readings (length bytes₀))
      (λ n. at_front (record_bytes s readings) bytes₀) bytes₀

-- the reader
pub record ExportedReadCall (bytes readings₀ : List ℕ) (r : RecordAnswer)
    (readings₁ : List ℕ) : Type 0 where
  pub answer : r ≡ record_of (read_due bytes (length readings₀))
  pub memory : readings₁ ≡ after (read_due bytes (length readings₀))
      (λ s. at_front (image_in bytes) readings₀) readings₀

-- the arrays of a live window made fresh: w before and w₁ after, each with the cycle c, the length
-- t and a count of 0
pub record ExportedFreshCall (c t : ℕ) (w : LiveWindow) (r : Answer)
    (w₁ : LiveWindow) : Type 0 where
  pub answer : r ≡ answer_of (fresh_due c t)
  pub window : w₁ ≡ after (fresh_due c t) (λ u. live_after c t []) w

-- a reading x pushed into window w, which becomes w₁: a push, with its answer in numbers
pub record ExportedPushCall (w : LiveWindow) (x : ℕ) (r : WindowAnswer)
    (w₁ : LiveWindow) : Type 0 where
  pub result : Result Live Refusal
  pub call : PushCall w x result w₁
  pub answer : r ≡ window_answer_of (value_of (live_outcome (outcome result))) w₁.filled
