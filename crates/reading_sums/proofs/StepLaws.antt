-- A change moved on by a step has what comes in added and what goes out taken off.
use Rattle.std.proofs.Common.{◌≡◌, ℕ, ◌+◌, ◌-◌, ◌/◌, ◌%◌, ◌^◌, ◌<◌, ◌≤◌, List, get_or, refl, ap}
use Rattle.std.proofs.Common.{◌∙◌, arith}
use Rattle.lists.specs.Difference.{plus_minus}
use Rattle.lists.proofs.Difference.{plus_minus-added}
use Rattle.median.specs.Sum.{share}
use Rattle.median.proofs.Sum.{share_half}
use Rattle.sums.specs.Parts.{added_sum}
use Rattle.reading_sums.specs.Passes.{of_line, step_at, moved_change}

-- what a reading adds is at most half a cycle
pub found_half : (c q z : ℕ) {r : ℕ} → r ≡ share c q z → r ≤ c / 2
found_half c q z e = omega (arith, share_half c q z)

-- a step added and half a cycle taken off is the gain added and the loss taken off
pub moved-step : (d half a b : ℕ) → b ≤ half → plus_minus d (half + a - b) half ≡ plus_minus d a b
unfolding plus_minus
moved-step d half a b h = omega arith

-- the same of the change at place j and the step of its reading
pub stepped-moved : (c : ℕ) (own entering leaving changes steps : List ℕ) (j : ℕ)
    → get_or steps j 0 ≡ step_at c own entering leaving j
    → moved_change changes steps (c / 2) j
    ≡ plus_minus (get_or changes j 0) (of_line c own entering j j) (of_line c own leaving j j)
stepped-moved c own entering leaving changes steps j e =
    ap (λ (x : ℕ). plus_minus (get_or changes j 0) x (c / 2)) e
    ∙ moved-step (get_or changes j 0) (c / 2) _ _ (share_half c _ _)

-- what `grow` stores for a change d
pub grown-stored : (changes gains : List ℕ) (j d : ℕ) → d ≡ get_or changes j 0
    → (d + get_or gains j 0) % 2 ^ 32 ≡ added_sum changes gains j
grown-stored changes gains j d e =
    plus_minus-added d _ _ refl ∙ ap (λ (x : ℕ). plus_minus x (get_or gains j 0) 0) e

-- what `move_on` stores for a change d
pub moved-stored : (changes steps : List ℕ) (half j d : ℕ) → half < 2 ^ 32 → d ≡ get_or changes j 0
    → ((d + get_or steps j 0) % 2 ^ 32 + (2 ^ 32 - half)) % 2 ^ 32
    ≡ moved_change changes steps half j
unfolding plus_minus
moved-stored changes steps half j d h e = rw (← e) (omega arith)
