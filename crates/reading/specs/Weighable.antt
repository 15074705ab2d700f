-- What the weighing of a plane relies on. Internal to the reading engine.
use Rattle.std.specs.Prelude.{◌≡◌, ℕ, ◌≤◌, List, length, slice_index}
use Rattle.sums.specs.Memory.{AreSigned}
use Rattle.lines.specs.Lines.{line_length}

-- there are at least as many readings and centres as sums, and as many ranks; all numbers that are
-- compared are below 2 ^ 31
pub record IsWeighable (sums own centres ranks least nearest : List ℕ) : Type 0 where
  pub short : length sums ≤ line_length
  pub own_long : length sums ≤ length own
  pub centres_long : length sums ≤ length centres
  pub ranks_long : length ranks ≡ length sums
  pub sums-signed : AreSigned (slice_index sums) (length sums)
  pub least-signed : AreSigned (slice_index least) (length sums)
  pub nearest-signed : AreSigned (slice_index nearest) (length sums)
