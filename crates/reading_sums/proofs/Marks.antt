-- Laws of the mark, which the sums at a reading begin at.
use Rattle.std.proofs.Common.{◌≡◌, ℕ, ◌≤◌, Bool, true, false, cond, arith}
use Rattle.cycle.specs.Silence.{silent, is_heard}
use Rattle.cycle.proofs.SilenceLaws.{unheard}
use Rattle.sums.specs.Memory.{no_sum}
use Rattle.reading_sums.specs.Passes.{mark}

-- of a heard reading it is 0
pub mark-none : (q : ℕ) → is_heard q ≡ true → mark q ≡ 0
unfolding mark
mark-none q h = rw h

-- of a silent one it is no sum
pub mark-silent : (q : ℕ) → q ≡ silent → mark q ≡ no_sum
unfolding mark
mark-silent q e = rw (unheard _ e)

-- of either it is at most no sum
pub mark-small : (q : ℕ) → mark q ≤ no_sum
unfolding mark
mark-small q = go (is_heard q)
  where
    go : (b : Bool) → cond b 0 no_sum ≤ no_sum
    go true = omega arith
    go false = omega arith
