-- Each place before the one at hand has its number.
use Rattle.std.proofs.Common.{◌≡◌, ℕ, ◌+◌, ◌<◌, get_or}
use Rattle.record_format.specs.Layout.{numbers_length}
use Rattle.record_format.specs.Fields.{number_at}
use Rattle.record.proofs.reader.stores.store_numbers.Given as goal

abbrev pub invariant-loop-k : goal.invariant-loop-k
invariant-loop-k l = (j : ℕ) → j < l.k
    → get_or l.row j 0 ≡ number_at l.bytes (l.at + numbers_length j)
