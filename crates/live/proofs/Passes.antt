-- How the code comes by what the passes over a window's arrays leave and find.
use Rattle.std.proofs.Common.{◌≡◌, ℕ, ◌+◌, ◌-◌, ◌%◌, ◌^◌, ◌<◌, Bool, true, false, if◌then◌else◌}
use Rattle.std.proofs.Common.{List, [], ◌∷◌, get_or, refl, ap, ◌∙◌, arith, unwrap_or, Some}
use Rattle.std.specs.List.{find}
use Rattle.lists.specs.Keep.{keep}
use Rattle.lists.specs.Total.{total, total_from}
use Rattle.lists.proofs.Total.{total_more}
use Rattle.cycle.specs.Silence.{silent, is_heard, is_reading, first_heard}
use Rattle.median.specs.Ranks.{rank_by}
use Rattle.std.proofs.lemmas.Bool.Decides.{nat_tests}
use Rattle.live.specs.Passes.{distance_to, slid_sum, distances_to, tick_or_silent, key_of}

-- the first heard reading is the first that passes the test
pub first_found : (readings : List ℕ)
    → unwrap_or (find is_heard readings) silent ≡ first_heard readings
unfolding first_heard keep
first_found [] = refl
first_found (q ∷ qs) = go (is_heard q) refl (first_found qs)
  where
    go : (b : Bool) → is_heard q ≡ b → unwrap_or (find is_heard qs) silent ≡ first_heard qs
        → unwrap_or (if b then Some q else find is_heard qs) silent ≡ first_heard (q ∷ qs)
    go true e rest = rw e
    go false e rest = rw e rest

module _ (c x : ℕ) (readings : List ℕ) where
  -- of no reading the sum is 0
  pub distances_none : 0 ≡ distances_to c x readings 0
  unfolding distances_to total
  distances_none = refl

  -- of one reading more its distance is added
  pub distances_more : (k : ℕ) {s g r : ℕ} → s ≡ distances_to c x readings k → g
      ≡ distance_to c x readings k → r ≡ (s + g) % 2 ^ 16 → r ≡ distances_to c x readings (k + 1)
  unfolding distances_to
  distances_more k {s} {g} {r} e d f =
      let more : total_from (distance_to c x readings) 0 (k + 1)
      ≡ total_from (distance_to c x readings) 0 k + distance_to c x readings k =
      total_more (distance_to c x readings) (λ i. i) 0 k ∙ ap (λ (i : ℕ). total_from
      (distance_to c x readings) 0 k + distance_to c x readings i) (omega arith) in
      omega (arith, e, d, f, more)

  -- the sum that comes to place k: the newest added, the oldest taken off
  pub slid_sum-is : (sums : List ℕ) (k : ℕ) {s g l : ℕ} → s ≡ get_or sums (k + 1) 0
      → g ≡ distance_to c x readings k
      → l ≡ distance_to c (get_or readings 0 0) readings k
      → ((s + g) % 2 ^ 16 + (2 ^ 16 - l)) % 2 ^ 16 ≡ slid_sum c x readings sums k
  unfolding slid_sum
  slid_sum-is sums k e d f = rw (e, d, f) (omega arith)

-- what is taken for the centre is a reading
pub reads : (c q : ℕ) → is_reading c (tick_or_silent c q) ≡ true
unfolding tick_or_silent is_reading
reads c q = grind (arith, nat_tests)

-- a key is a signed number of 32 bits
pub key-signed : (c a q s : ℕ) → c < 2 ^ 16 → key_of c a q s < 2 ^ 31
unfolding key_of rank_by
key-signed c a q s h = grind (arith, nat_tests)
