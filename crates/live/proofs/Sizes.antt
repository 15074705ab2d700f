-- What clear tests say of the cycle, the length and the reading of a live window's call.
use Rattle.std.proofs.Common.{ℕ, ◌+◌, ◌*◌, ◌%◌, ◌≤◌, ◌<◌, ◌≡◌, true, [], ◌∷◌, arith, ltb-false}
use borrow.Author.Tests.{eqb-false, not-false}
use Rattle.refusal.specs.Limits.{live_cycle, live_length}
use Rattle.refusal.specs.Outcome.{IsClear}
use Rattle.refusal.proofs.Outcome.{clear_split}
use Rattle.cycle.specs.Silence.{is_reading}
use Rattle.shape.specs.Rules.{reach}
use Rattle.cycle.specs.Calls.{reading_rule}
use Rattle.live.specs.Calls.{window_rules, push_rules}

-- what the tests say of the cycle c and the length t
pub record Sizes (c t : ℕ) : Type 0 where
  pub cycle_some : 0 < c
  pub cycle_fits : c ≤ live_cycle
  pub some : 0 < t
  pub odd : t ≡ 2 * reach t + 1
  pub fits : t ≤ live_length

-- clear tests of a window say this
pub window_clear : (c t : ℕ) → IsClear (window_rules c t) → Sizes c t
window_clear c t k =
    let cycle = eqb-false c 0 k.0 in
    let odd : (t % 2 ≡ 0 → ⊥) = eqb-false _ 0 k.1.1.0 in
    record {
      cycle_some = omega arith;
      cycle_fits = ltb-false live_cycle c k.1.0;
      some = omega arith;
      odd = omega arith;
      fits = ltb-false live_length t k.1.1.1.0;
    }

-- clear tests of a push say it too, and that x is a reading
pub push_clear : (c t x : ℕ) → IsClear (push_rules c t x) → Sizes c t × (is_reading c x ≡ true)
push_clear c t x k = let parts = clear_split (window_rules c t) (reading_rule c x 0 ∷ []) k in
    (window_clear c t parts.0, not-false _ parts.1.0)
