-- What acceptance says of the arguments of a filter call, and the work memory that it leaves.
use Prim.Native.Nat.{ℕ, ◌≤◌, ◌<◌}
use mathlib.Core.Path.{◌≡◌, sym, ◌∙◌}
use mathlib.Core.List.{List, ◌++◌}
use native.Mathlib.Omega.{arith}
use native.Mathlib.Decide.{dec_lt}
use borrow.Author.Tests.{le-ltb, eq-eqb, ltb-false, eqb-true, not-false}
use lib.ListN.{length, get_or, drop}
use Rattle.std.proofs.Common.{replicate, rules}
use Rattle.std.proofs.lemmas.List.{places}
use lib.Seq.{ext_get_or}
use Rattle.lists.specs.First.{first_bad}
use Rattle.lists.specs.Tabulate.{set_range}
use Rattle.lists.proofs.Written.{length-set_range, set_range-inside, set_range_after}
use Rattle.refusal.specs.Outcome.{Rule, first_due, IsClear}
use Rattle.refusal.specs.Outcome.Outcome.{accepted}
use Rattle.refusal.proofs.Outcome.{after_same, accepted_clear, clear_split}
use Rattle.refusal.specs.Limits.{longest_cycle}
use Rattle.cycle.specs.Silence.{is_reading}
use Rattle.shape.specs.Rules.{shape_rules, area}
use Rattle.shape.specs.declared.Shape.{Shape}
use Rattle.sums.specs.Memory.{Changed}
use Rattle.sums.specs.Parts.{zeros}
use Rattle.sums.proofs.Memory.{changed_first}
use Rattle.window.specs.Ready.{IsReady}
use Rattle.filter.specs.declared.Engine.{Engine}
use Rattle.filter.specs.declared.Engine.TheVariants.{Level, Reading}
use Rattle.filter.specs.Calls.{limit, need, memory_rules, image_rules, room_due, filter_due}

-- what tests 5 to 9 say when they are clear
pub record IsTestedImage (s : Shape) (need first end : ℕ) (image : List ℕ)
    (output work : ℕ) : Type 0 where
  pub order : first ≤ end
  pub within : end ≤ s.rows
  pub size : length image ≡ area s
  pub output-room : area s ≤ output
  pub work-room : need ≤ work
  pub good : length image ≤ first_bad (is_reading s.cycle) image

-- clear tests 5 to 9 say so
pub image_clear : (s : Shape) (need first end : ℕ) (image : List ℕ) (output work : ℕ)
    → IsClear (image_rules s need first end image output work)
    → IsTestedImage s need first end image output work
image_clear s need first end image output work k = record {
  order = ltb-false end first k.0;
  within = ltb-false s.rows end k.1.0;
  size = eqb-true _ _ (not-false _ k.1.1.0);
  output-room = ltb-false output _ k.1.1.1.0;
  work-room = ltb-false work need k.1.1.1.1.0;
  good = ltb-false _ _ k.1.1.1.1.1.0;
}

-- a shape and an image that have passed their tests are ready for an engine
pub image_ready : {s : Shape} {need first end output work limit : ℕ} {image : List ℕ}
    → IsClear (shape_rules limit s)
    → IsTestedImage s need first end image output work → IsReady limit s image
image_ready k i = record { shape = k; size = i.size; good = i.good }

-- an image that is ready for one limit of the cycle is so for every limit that its cycle keeps
pub ready_within : {a b : ℕ} {s : Shape} {image : List ℕ} → s.cycle ≤ b → IsReady a s image
    → IsReady b s image
ready_within {a} {b} {s} fits r =
    let k = r.shape in
    record { shape = (k.0, (le-ltb b s.cycle fits, k.1.1)); size = r.size; good = r.good }

-- the first n numbers filled with 0, by what std's `fill` says
pub front-zeroed : {w part : List ℕ} {n m : ℕ} → n ≡ m → n ≤ length w → part ≡ replicate n 0
    → Changed w (part ++ drop n w) 0 m zeros
front-zeroed same room e = rw (e, ← same) (record {
  len = search (rules, places);
  before = λ k h. absurd (omega arith);
  holds = λ q h. search (rules, places);
  after = λ k h. search (rules, places);
})

-- the work memory that is due: the needed numbers are 0, and those behind never changed
pub zeroed : {w w' : List ℕ} {need : ℕ} (w₀ : List ℕ) → need ≤ length w₀ → length w ≡ length w₀
    → ((k : ℕ) → need ≤ k → get_or w k 0 ≡ get_or w₀ k 0)
    → Changed w w' 0 need zeros
    → w' ≡ set_range (λ k. 0) 0 need w₀
zeroed {w} {w'} {need} w₀ room len beyond x =
    ext_get_or 0 w' (set_range (λ k. 0) 0 need w₀) (x.len ∙ len ∙ sym
    (length-set_range (λ k. 0) 0 need w₀ (omega arith) room)) (λ k i. at k (dec_lt k need))
  where
    at : (k : ℕ) → Dec (k < need) → get_or w' k 0 ≡ get_or (set_range (λ k. 0) 0 need w₀) k 0
    at k (yes h) = changed_first x k h
        ∙ sym (set_range-inside (λ k. 0) 0 need w₀ (omega arith) room 0 k (omega arith) h)
    at k (no h) = x.after k (omega arith) ∙ beyond k (omega arith)
        ∙ sym (set_range_after (λ k. 0) 0 need w₀ (omega arith) room 0 k (omega arith))

-- What an accepted call has passed, and which tests a good image cannot fail.
module _ (e : Engine) (s : Shape) (first end : ℕ) (image : List ℕ) (output work : ℕ) where
  -- tests 1 to 3
  abbrev shape-tests : List Rule
  shape-tests = shape_rules (limit e) s

  -- tests 5 to 9
  abbrev image_tests : List Rule
  image_tests = image_rules s (need e s) first end image output work

  -- all tests of an accepted call are clear
  pub tests_clear : filter_due e s first end image output work ≡ accepted tt
      → IsClear shape-tests × IsClear image_tests
  unfolding filter_due
  tests_clear answer-is = clear_split shape-tests image_tests
      (accepted_clear tt (shape-tests ++ image_tests) tt answer-is)

  -- so its arguments are what tests 5 to 9 say
  pub call-tested : filter_due e s first end image output work ≡ accepted tt
      → IsTestedImage s (need e s) first end image output work
  call-tested answer-is =
      image_clear s (need e s) first end image output work (tests_clear answer-is).1

  -- and its image is ready for the engine
  pub call-ready : filter_due e s first end image output work ≡ accepted tt
      → IsReady (limit e) s image
  call-ready answer-is = image_ready (tests_clear answer-is).0 (call-tested answer-is)

  -- a good image with a range of its rows is refused only for its shape and for the memory
  pub good_image : first ≤ end → end ≤ s.rows → length image ≡ area s
      → length image ≤ first_bad (is_reading s.cycle) image
      → filter_due e s first end image output work ≡ room_due e s output work
  unfolding filter_due room_due first_due
  good_image order within size good =
      after_same tt shape-tests image_tests (memory_rules (area s) (need e s) output work)
      (rw (
        le-ltb end first order,
        le-ltb s.rows end within,
        eq-eqb (length image) (area s) size,
        le-ltb (first_bad (is_reading s.cycle) image) (length image) good,
      ))

-- every cycle that an engine takes is a cycle
pub limit-fits : (e : Engine) → limit e ≤ longest_cycle
limit-fits Level = omega arith
limit-fits Reading = omega arith
