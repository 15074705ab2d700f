-- The tests of a filter call rise in number, so that a refusal has the least number that is due:
-- SPECIFICATION, "Order of tests".
use Prim.Native.Nat.{ℕ}
use mathlib.Core.Path.{◌≡◌}
use mathlib.Core.List.{List}
use borrow.Author.Rules.{rules}
use Rattle.refusal.specs.Outcome.{IsRising, IsNumbered}
use Rattle.refusal.specs.Outcome.Outcome.{refused}
use Rattle.refusal.proofs.Order.{LowestDue, refused-lowest}
use Rattle.shape.specs.declared.Shape.{Shape}
use Rattle.filter.specs.declared.Engine.{Engine}
use Rattle.filter.specs.Calls.{filter_rules, filter_due}

module _ (e : Engine) (s : Shape) (first end : ℕ) (image : List ℕ) (output work : ℕ) where
  -- the tests rise in number
  pub filter_rising : IsRising (filter_rules e s first end image output work)
  filter_rising = search rules

  -- no test has the number 0
  pub filter_numbered : IsNumbered (filter_rules e s first end image output work)
  filter_numbered = search rules

  -- no test that is due has a lower number than the refusal
  pub filter-least : {n k : ℕ} → filter_due e s first end image output work ≡ refused n k
      → LowestDue n (filter_rules e s first end image output work)
  unfolding filter_due
  filter-least = refused-lowest tt (filter_rules e s first end image output work) filter_rising
