-- The tests of the live window's calls rise in number, and none has the number 0:
-- SPECIFICATION, "Order of tests".
use Rattle.std.proofs.Common.{ℕ, rules}
use Rattle.refusal.specs.Outcome.{IsRising, IsNumbered}
use Rattle.live.specs.Calls.{window_rules, push_rules}

-- no test of a window has the number 0
pub window_numbered : (c t : ℕ) → IsNumbered (window_rules c t)
window_numbered c t = search rules

-- the tests of a push rise in number
pub push_rising : (c t x : ℕ) → IsRising (push_rules c t x)
push_rising c t x = search rules

-- and none has the number 0
pub push_numbered : (c t x : ℕ) → IsNumbered (push_rules c t x)
push_numbered c t x = search rules
