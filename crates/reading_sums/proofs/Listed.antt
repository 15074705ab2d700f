-- On 360 ticks each distance of the passes, which measure by the formula (`apart_by_formula`), is
-- the list's entry at the gap between the two readings (SPECIFICATION, Distances on 360 ticks). A
-- silent reading adds 0, and so does the list: its gap to a tick lies beyond the last entry.
use Rattle.std.proofs.Common.{◌≡◌, ℕ, ◌+◌, ◌-◌, ◌/◌, ◌<◌, List, sym, refl, ◌∙◌}
use Rattle.cycle.specs.List.{listed_cycle}
use Rattle.cycle.proofs.ListLaws.{distance-listed}
use Rattle.median.proofs.Sum.{share_short}
use Rattle.sums.specs.Memory.{Changed}
use Rattle.sums.proofs.Memory.{changed_is}
use Rattle.reading_sums.specs.Passes.{between, between_two, step_at}
use Rattle.reading_sums.specs.Listed.{AreListedReadings, entry_between}

-- what a reading gains by another is the list's entry
pub between-listed : (own row : List ℕ) (n : ℕ) → AreListedReadings own n → AreListedReadings row n
    → (j : ℕ) → j < n → between listed_cycle own row j ≡ entry_between own row j
between-listed own row n x y j h =
    sym (share_short listed_cycle _ _ refl (x j h) (y j h)) ∙ distance-listed _ _

module _ (own row : List ℕ) (n : ℕ) {out₀ out : List ℕ} (x : AreListedReadings own n)
    (y : AreListedReadings row n) where
  -- what `distances` leaves
  pub distances_listed : Changed out₀ out 0 n (between listed_cycle own row)
      → Changed out₀ out 0 n (entry_between own row)
  distances_listed d = changed_is _ d (between-listed own row n x y)

  -- what `distances_to_two` leaves
  pub distances_to_two_listed : (other : List ℕ) → AreListedReadings other n
      → Changed out₀ out 0 n (between_two listed_cycle own row other)
      → Changed out₀ out 0 n (λ j. entry_between own row j + entry_between own other j)
  distances_to_two_listed other z d =
      changed_is _ d
      (λ j h. rw (between-listed own row n x y j h, between-listed own other n x z j h))

  -- what `steps` leaves
  pub steps-listed : (leaving : List ℕ) → AreListedReadings leaving n
      → Changed out₀ out 0 n (step_at listed_cycle own row leaving)
      → Changed out₀ out 0 n
      (λ j. listed_cycle / 2 + entry_between own row j - entry_between own leaving j)
  steps-listed leaving z d =
      changed_is _ d
      (λ j h. rw (between-listed own row n x y j h, between-listed own leaving n x z j h))
