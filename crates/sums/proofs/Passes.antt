-- What the passes compute at one place, by additions and subtractions that wrap, is what
-- `specs/Parts.antt` defines.
use Rattle.std.specs.Prelude.{slice_index}
use Rattle.std.proofs.Common.{◌≡◌, ℕ, ◌+◌, ◌-◌, ◌%◌, ◌^◌, ◌<◌, min, List, length, get_or, set, sym}
use Rattle.std.proofs.Common.{ap, ◌∙◌, arith}
use Rattle.lists.specs.Difference.{plus_minus}
use Rattle.sums.specs.Memory.{IsBegun, AreSigned, lowest}
use Rattle.sums.specs.Parts.{increased_sum}
use Rattle.sums.proofs.Memory.{begun_none, begun_more}
use Rattle.sums.proofs.Lowest.{lowest-none, lowest_turn, lowest-signed, lowest_cong}

-- one number added
pub added_sum-is : (d x : ℕ) → (d + x) % 2 ^ 32 ≡ plus_minus d x 0
unfolding plus_minus
added_sum-is d x = omega arith

-- one added and one taken off
pub swapped_sum-is : (d x y : ℕ) → y < 2 ^ 32
    → ((d + x) % 2 ^ 32 + (2 ^ 32 - y)) % 2 ^ 32 ≡ plus_minus d x y
unfolding plus_minus
swapped_sum-is d x y h = omega arith

-- two added and two taken off, one after the other, as the code does it
abbrev pub in_and_out : ℕ → ℕ → ℕ → ℕ → ℕ → ℕ
in_and_out d a b x y =
    ((((d + a) % 2 ^ 32 + b) % 2 ^ 32 + (2 ^ 32 - x)) % 2 ^ 32 + (2 ^ 32 - y)) % 2 ^ 32

-- that is both added and both taken off at once
pub advanced_change-is : (d a b x y : ℕ) → x < 2 ^ 32 → y < 2 ^ 32
    → in_and_out d a b x y ≡ plus_minus d (a + b) (x + y)
unfolding plus_minus
advanced_change-is d a b x y h g = omega arith

-- `move_sums` after n places: differences t, sums increased by them, and the lowest of these sums
pub record Turning (sums₀ sums change₀ change : List ℕ) (n least : ℕ) (t : ℕ → ℕ) : Type 0 where
  pub summing : IsBegun sums₀ sums n (increased_sum sums₀ t)
  pub turning : IsBegun change₀ change n t
  pub lowest_so_far : least ≡ lowest (increased_sum sums₀ t) n

module _ {sums₀ change₀ : List ℕ} {t : ℕ → ℕ} where
  -- before the first place
  pub turning_none : Turning sums₀ sums₀ change₀ change₀ 0 (2 ^ 31 - 1) t
  turning_none =
      record { summing = begun_none; turning = begun_none; lowest_so_far = sym (lowest-none _) }

  module _ {sums change : List ℕ} {n least : ℕ} (now : Turning sums₀ sums change₀ change n least t)
      (room : n < length sums₀) {d : ℕ} (is : d ≡ t n) where
    -- the sum that the code computes at place n
    sum-here : (get_or sums n 0 + d) % 2 ^ 32 ≡ increased_sum sums₀ t n
    sum-here = cc (now.summing.left n (omega arith))

    -- the two numbers that are compared are below 2 ^ 31
    pub turning-signed : AreSigned (increased_sum sums₀ t) (length sums₀)
        → ((get_or sums n 0 + d) % 2 ^ 32 < 2 ^ 31) × (least < 2 ^ 31)
    turning-signed signed = (rw sum-here (signed n room), rw now.lowest_so_far (lowest-signed _ n))

    -- one place more
    pub turning_more : {r : ℕ} → length change₀ ≡ length sums₀
        → r ≡ min ((get_or sums n 0 + d) % 2 ^ 32) least
        → Turning sums₀ (set sums n ((get_or sums n 0 + d) % 2 ^ 32)) change₀ (set change n d)
        (n + 1) r t
    turning_more long e = record {
      summing = begun_more now.summing _ room sum-here;
      turning = begun_more now.turning _ (omega arith) is;
      lowest_so_far = lowest_turn _ n e sum-here now.lowest_so_far;
    }

  -- after the last place: the lowest of the new sums
  pub turning_lowest : {sums change : List ℕ} {n least : ℕ}
      → Turning sums₀ sums change₀ change n least t → n ≡ length sums₀
      → least ≡ lowest (slice_index sums) (length sums₀)
  turning_lowest now e =
      now.lowest_so_far ∙ lowest_cong _ _ _ (λ q h. sym (now.summing.done q h)) ∙ ap (lowest _) e
