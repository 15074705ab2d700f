-- What a filter call answers, and what it leaves in lent memory: SPECIFICATION, "Filters" and
-- "Lent memory". The engines differ only in the cycles that they take and in the work memory that
-- they need.
use Rattle.std.specs.Prelude.{ℕ, ◌+◌, ◌*◌, ◌≤◌, ◌<◌, ◌≡◌, List, [], ◌∷◌, ◌++◌, length, slice_index}
use Rattle.std.specs.Prelude.{Result}
use Rattle.lists.specs.Tabulate.{set_range}
use Rattle.refusal.specs.Limits.{longest_cycle, level_cycle}
use Rattle.refusal.specs.Outcome.{Outcome, Rule, first_due, outcome, after}
use Rattle.refusal.specs.declared.Refusal.{Refusal}
use Rattle.cycle.specs.Calls.{readings_rule}
use Rattle.shape.specs.Need.{level_need, reading_need}
use Rattle.shape.specs.Rules.{shape_rules, area, rows_rules, input_rule, buffer_rule, work_rule}
use Rattle.shape.specs.declared.Shape.{Shape}
use Rattle.window.specs.Phase.{phase_at}
use Rattle.filter.specs.declared.Engine.{Engine}
use Rattle.filter.specs.declared.Engine.TheVariants.{Level, Reading}

-- the longest cycle that an engine takes, in ticks
abbrev pub limit : Engine → ℕ
limit Level = level_cycle
limit Reading = longest_cycle

-- the numbers of work memory that an engine needs for a shape
abbrev pub need : Engine → Shape → ℕ
need Level = level_need
need Reading = reading_need

-- tests 7 and 8, where so many numbers of output and of work memory are needed
abbrev pub memory_rules : ℕ → ℕ → ℕ → ℕ → List Rule
memory_rules phases room output work = buffer_rule phases output ∷ work_rule room work ∷ []

-- tests 5 to 9, where so many numbers of work memory are needed
abbrev pub image_rules : Shape → ℕ → ℕ → ℕ → List ℕ → ℕ → ℕ → List Rule
image_rules s room first end image output work =
    rows_rules s.rows first end ++ (input_rule (area s) (length image)
    ∷ (memory_rules (area s) room output work ++ (readings_rule s.cycle image ∷ [])))

-- the tests of a filter call: 1 to 3 on the shape, then 5 to 9
abbrev pub filter_rules : Engine → Shape → ℕ → ℕ → List ℕ → ℕ → ℕ → List Rule
filter_rules e s first end image output work =
    shape_rules (limit e) s ++ image_rules s (need e s) first end image output work

-- what a filter call answers
unfoldable pub filter_due : Engine → Shape → ℕ → ℕ → List ℕ → ℕ → ℕ → Outcome Unit
filter_due e s first end image output work =
    first_due (filter_rules e s first end image output work) tt

-- the tests that look neither at the range of rows nor at the readings: 1 to 3, 7 and 8
abbrev pub room_rules : Engine → Shape → ℕ → ℕ → List Rule
room_rules e s output work = shape_rules (limit e) s ++ memory_rules (area s) (need e s) output work

-- whether every good image of a shape is filtered in so much memory
unfoldable pub room_due : Engine → Shape → ℕ → ℕ → Outcome Unit
room_due e s output work = first_due (room_rules e s output work) tt

-- the output with rows first to end - 1 filtered: the phase of row i and column j stands at i *
-- columns + j, and all else is as it was
abbrev pub filtered_rows : Shape → ℕ → ℕ → List ℕ → List ℕ → List ℕ
filtered_rows s first end image output =
    set_range (phase_at s image) (first * s.columns) (end * s.columns) output

-- the work memory with the needed numbers 0, the others as they were
abbrev pub zeroed_work : Engine → Shape → List ℕ → List ℕ
zeroed_work e s work = set_range (λ k. 0) 0 (need e s) work

-- a call of an engine: its answer, and output and work memory before it (₀) and after it (₁); a
-- refusal changes neither
pub record FilterCall (e : Engine) (s : Shape) (first end : ℕ) (image output₀ work₀ : List ℕ)
    (r : Result Unit Refusal) (output₁ work₁ : List ℕ) : Type 0 where
  pub answer : outcome r ≡ filter_due e s first end image (length output₀) (length work₀)
  pub output : output₁ ≡ after (outcome r) (λ u. filtered_rows s first end image output₀) output₀
  pub work : work₁ ≡ after (outcome r) (λ u. zeroed_work e s work₀) work₀

-- two outputs agree at each column of the rows first to end - 1
abbrev pub SameRows : Shape → ℕ → ℕ → List ℕ → List ℕ → Type 0
SameRows s first end a b = (i j : ℕ) → first ≤ i → i < end → j < s.columns
    → slice_index a (i * s.columns + j) ≡ slice_index b (i * s.columns + j)
