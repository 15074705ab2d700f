-- What the passes of the choice leave at each place: ranks, and the lowest pair of a sum and a rank.
-- Internal to the reading engine.
use Rattle.std.specs.Prelude.{ℕ, Bool, List, slice_index, if◌then◌else◌}
use Rattle.sums.specs.Memory.{no_sum}
use Rattle.median.specs.Ranks.{rank_of, phase_by}
use Rattle.median.specs.Weighed.{is_lower_pair}

-- the rank of the reading at place j of a line from the centre of column j
abbrev pub rank_at : ℕ → List ℕ → List ℕ → ℕ → ℕ
rank_at c centres own j = rank_of c (slice_index centres j) (slice_index own j)

-- the least sum while nothing is weighed: no sum
abbrev pub unweighed_sum : ℕ → ℕ
unweighed_sum j = no_sum

-- and its rank: 0, below which there is none
abbrev pub unweighed_rank : ℕ → ℕ
unweighed_rank j = 0

-- the same for the sum and the rank at place j of a plane
abbrev pub is_lower_at : List ℕ → (ℕ → ℕ) → List ℕ → List ℕ → ℕ → Bool
is_lower_at sums rank least nearest j =
    is_lower_pair (slice_index sums j) (rank j) (slice_index least j) (slice_index nearest j)

-- the sum that is kept at place j once the plane is weighed
abbrev pub least_sum : List ℕ → (ℕ → ℕ) → List ℕ → List ℕ → ℕ → ℕ
least_sum sums rank least nearest j =
    if is_lower_at sums rank least nearest j then slice_index sums j else slice_index least j

-- and the rank that is kept there
abbrev pub nearest_rank : List ℕ → (ℕ → ℕ) → List ℕ → List ℕ → ℕ → ℕ
nearest_rank sums rank least nearest j =
    if is_lower_at sums rank least nearest j then rank j else slice_index nearest j

-- the same for column j
abbrev pub phases_by : ℕ → List ℕ → List ℕ → ℕ → ℕ
phases_by c centres nearest j = phase_by c (slice_index centres j) (slice_index nearest j)
