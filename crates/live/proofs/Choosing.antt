-- What the code finds in a window with true sums is its chosen phase: the least key is that of a
-- heard reading, and its rank from the centre is the one that the choice among the heard readings
-- keeps.
use Rattle.std.proofs.Common.{ℕ, zero, suc, ◌+◌, ◌*◌, ◌/◌, ◌%◌, ◌^◌, ◌≤◌, ◌<◌, min, ◌≡◌, refl, ap}
use Rattle.std.proofs.Common.{sym, ◌∙◌, true, inl, inr, List, [], ◌∷◌, arith, mul-le-mul}
use Rattle.std.proofs.Common.{mod-eq_of_lt, lt-ltb, le-ltb, length, get_or}
use native.Mathlib.Decide.{dec_lt}
use Rattle.lists.specs.Members.{In}
use Rattle.lists.proofs.Members.{each_in, each_get_or}
use Rattle.lists.proofs.Keep.{in_keep, keep_in}
use Rattle.lists.proofs.Total.{total_most}
use Rattle.refusal.specs.Limits.{longest_cycle, live_cycle, live_length}
use Rattle.cycle.specs.Silence.{silent, is_heard, is_reading, heard}
use Rattle.cycle.proofs.SilenceLaws.{unheard, tick-heard, tick-reading, silent-reading}
use Rattle.cycle.proofs.SilenceLaws.{reading_case, heard_ticks}
use Rattle.median.specs.Sum.{sum_at, share, shares, AreTicks}
use Rattle.median.specs.Choice.{rank, key, chosen_phase}
use Rattle.median.specs.Median.{centre_heard, phase_of}
use Rattle.median.proofs.Sum.{share_half, shares_sum}
use Rattle.median.proofs.Median.{of_none, stand_in, stand_in_none, of_chosen}
use Rattle.sums.specs.Memory.{AreSigned, no_sum, lowest}
use Rattle.sums.proofs.Lowest.{lowest-least, lowest-found}
use Rattle.median.specs.Ranks.{rank_of, tick_of, phase_by}
use Rattle.median.specs.Weighed.{IsWeighed}
use Rattle.median.proofs.RankLaws.{rank_is, rank_cycle}
use Rattle.median.proofs.Weighing.{outweighed, weighed-chosen}
use Rattle.live.specs.Passes.{IsSearchable, HasSums, middle_of, tick_or_silent, key_of}
use Rattle.live.specs.Passes.{key_at, phase_from, phase_in}

-- each place of a list holds one of its elements
in_at : (xs : List ℕ) (k : ℕ) → k < length xs → In (get_or xs k 0) xs
in_at [] k h = absurd (omega arith)
in_at (x ∷ xs) zero h = inl refl
in_at (x ∷ xs) (suc k) h = inr (in_at xs k (omega arith))

-- each element of a list has a place
place_of : (y : ℕ) (xs : List ℕ) → In y xs → (k : ℕ) × (k < length xs) × (y ≡ get_or xs k 0)
place_of y [] i = absurd i
place_of y (x ∷ xs) (inl e) = (0, omega arith, e)
place_of y (x ∷ xs) (inr i) = let r = place_of y xs i in (suc r.0, omega (arith, r.1), r.2)

-- a sum is at most half a longest cycle for each reading of a longest window
pub shares_most : (c q : ℕ) (zs : List ℕ) → c ≤ live_cycle → length zs ≤ live_length
    → shares c q zs ≤ live_length * (live_cycle / 2)
shares_most c q zs fits long =
    let most = total_most (share c q) (c / 2) zs (λ z. share_half c q z) in
    let product : length zs * (c / 2) ≤ live_length * (live_cycle / 2) =
    mul-le-mul {n₁ = length zs} {m₁ = c / 2} {n₂ = live_length} {m₂ = live_cycle / 2} long
    (omega arith) in
    omega arith

-- a reading is taken for what it is
tick-or-silent : (c q : ℕ) → c ≤ longest_cycle → is_reading c q ≡ true → tick_or_silent c q ≡ q
unfolding tick_or_silent
tick-or-silent c q fits r =
    reading_case c q r (λ h. rw (lt-ltb q c h)) (λ e. rw (le-ltb q c (omega arith)) (sym e))

-- a lower key of one kind is a lower key of the other: both compare sums, and then ranks
lower_key : (s u r v m : ℕ) → s * 2 ^ 16 + r ≤ u * 2 ^ 16 + v → r ≤ m → v < 2 ^ 16
    → s * m + r ≤ u * m + v
lower_key s u r v m h g l = go (dec_lt s u)
  where
    go : Dec (s < u) → s * m + r ≤ u * m + v
    go (yes e) = omega (arith, outweighed s u r m e g)
    go (no e) =
        let same : s ≡ u = omega arith in
        let product : s * m ≡ u * m = ap (λ (n : ℕ). n * m) same in
        omega arith

-- from a silent centre the phase is silent
none_found : (c : ℕ) {a : ℕ} (readings sums : List ℕ) → a ≡ silent
    → phase_from c a readings sums ≡ silent
unfolding phase_from phase_by
none_found c {a} readings sums e = rw (unheard a e)

-- from a heard centre it is the tick of the rank
phase-heard : (c a r : ℕ) → is_heard a ≡ true → phase_by c a r ≡ tick_of c a r
unfolding phase_by
phase-heard c a r e = rw e

-- the key of a heard reading
key-heard : (c a q s : ℕ) → is_heard q ≡ true → s < 2 ^ 15
    → key_of c a q s ≡ s * 2 ^ 16 + rank_of c a q
unfolding key_of
key-heard c a q s e small = rw (e, mod-eq_of_lt small)

-- the key of a silent reading
key-silent : (c a q s : ℕ) → q ≡ silent → key_of c a q s ≡ no_sum
unfolding key_of
key-silent c a q s e = rw (unheard q e)

module _ {c : ℕ} {readings sums : List ℕ} (w : IsSearchable c readings sums)
    (h : HasSums c readings sums) where
  -- the reading at a place
  abbrev reading : ℕ → ℕ
  reading k = get_or readings k 0

  -- the middle one
  abbrev middle : ℕ
  middle = middle_of readings

  -- every place holds a reading
  reads : (k : ℕ) → is_reading c (reading k) ≡ true
  reads k = each_get_or (λ z. is_reading c z ≡ true) readings k h.readings_good
      (tick-reading c 0 w.cycle_some)

  -- the middle one is one of the readings
  member : In middle readings
  member = in_at readings _ (omega (arith, w.some))

  -- Something is heard.
  module _ (some : 0 < length (heard readings)) where
    -- the centre
    abbrev a : ℕ
    a = centre_heard middle readings

    -- what is heard are ticks
    ticks : AreTicks c (heard readings)
    ticks = heard_ticks c readings h.readings_good

    -- the centre is heard
    a_in : In a (heard readings)
    a_in = stand_in c middle readings h.readings_good member some

    -- so it is a tick
    a_tick : a < c
    a_tick = each_in (λ z. z < c) a (heard readings) ticks a_in

    -- the sum of the distances in ticks from q to what is heard
    abbrev sum : ℕ → ℕ
    sum q = sum_at c q (heard readings)

    -- it fits 15 bits
    sum_fits : (q : ℕ) → q < c → (shares c q readings ≡ sum q) × (sum q < 2 ^ 15)
    sum_fits q tick =
        let own : shares c q readings ≡ sum q =
        shares_sum c q readings (tick-heard c q (omega (arith, w.cycle_fits)) tick) in
        (own, omega (arith, own, shares_most c q readings w.cycle_fits w.fits))

    -- the key of a heard reading at a place
    key-is : (k q : ℕ) → k < length readings → q < c → q ≡ reading k
        → key_at c a readings sums k ≡ sum q * 2 ^ 16 + rank c a q
    key-is k q l tick e =
        let was-heard : is_heard q ≡ true = tick-heard c q (omega (arith, w.cycle_fits)) tick in
        let fits = sum_fits q tick in
        let here : get_or sums k 0 ≡ sum q =
        h.sums_true k l ∙ ap (λ (z : ℕ). shares c z readings) (sym e) ∙ fits.0 in
        rw (here, ← e)
        (key-heard c a q (sum q) was-heard fits.1 ∙ ap (λ (r : ℕ). sum q * 2 ^ 16 + r)
        (rank_is c a q a_tick tick (omega (arith, w.cycle_fits))))

    -- the least key is at most that of each heard reading
    low : (q : ℕ) → In q (heard readings)
        → lowest (key_at c a readings sums) (length readings) ≤ sum q * 2 ^ 16 + rank c a q
    low q i =
        let p = place_of q readings (keep_in is_heard q readings i) in
        let tick : q < c = each_in (λ z. z < c) q (heard readings) ticks i in
        omega (
          arith,
          lowest-least (key_at c a readings sums) (length readings) p.0 p.1,
          key-is p.0 q p.1 tick p.2,
        )

    -- the key of a heard reading is below the mark of none
    small : (q : ℕ) → q < c → sum q * 2 ^ 16 + rank c a q < no_sum
    small q tick = omega (
      arith,
      (sum_fits q tick).1,
      shares_most c q readings w.cycle_fits w.fits,
      (sum_fits q tick).0,
      rank_cycle c a q a_tick tick,
      w.cycle_fits,
    )

    -- all keys are signed numbers
    signed : AreSigned (key_at c a readings sums) (length readings)
    signed k l =
        reading_case c (reading k) (reads k)
        (λ tick. omega (arith, key-is k (reading k) l tick refl, small (reading k) tick))
        (λ e. omega (arith, key-silent c a (reading k) (get_or sums k 0) e))

    -- the least key
    abbrev least : ℕ
    least = lowest (key_at c a readings sums) (length readings)

    -- the least key is that of a heard reading
    found : (q : ℕ) × In q (heard readings) × (least ≡ sum q * 2 ^ 16 + rank c a q)
    found = go (lowest-found (key_at c a readings sums) (length readings) w.some signed)
      where
        go : (k : ℕ) × (k < length readings) × (key_at c a readings sums k ≡ least)
            → (q : ℕ) × In q (heard readings) × (least ≡ sum q * 2 ^ 16 + rank c a q)
        go p =
            let q = reading p.0 in
            reading_case c q (reads p.0)
            (λ tick. (
              q,
              in_keep is_heard q readings (tick-heard c q (omega (arith, w.cycle_fits)) tick)
                  (in_at readings p.0 p.1),
              sym p.2 ∙ key-is p.0 q p.1 tick refl,
            ))
            (λ e. absurd (omega
            (arith, p.2, key-silent c a q (get_or sums p.0 0) e, low a a_in, small a a_tick)))

    -- so the phase by the least key is the chosen one
    some-found : phase_from c a readings sums ≡ chosen_phase c a (heard readings)
    unfolding phase_from key
    some-found =
        let f = found in
        let q = f.0 in
        let tick : q < c = each_in (λ z. z < c) q (heard readings) ticks f.1 in
        let nearest = rank_cycle c a q a_tick tick in
        let cycle : c ≤ live_cycle = w.cycle_fits in
        let rank-is : min (least % 2 ^ 16) c ≡ rank c a q = omega (arith, f.2) in
        let weighed : IsWeighed c a sum (heard readings) (sum q) (rank c a q) = record {
          low = λ p i. lower_key (sum q) (sum p) (rank c a q) (rank c a p) (2 * c)
              (omega (arith, low p i, f.2)) (omega arith)
              (omega (
                arith,
                rank_cycle c a p a_tick (each_in (λ z. z < c) p (heard readings) ticks i),
              ));
          nearest_cycle = nearest;
          found = inr (q, f.1, refl, refl);
        } in
        rw rank-is
        (phase-heard c a (rank c a q) (tick-heard c a (omega arith) a_tick)
        ∙ weighed-chosen c a (heard readings) ticks a_in sum (λ p i. refl) weighed)

  -- the phase that the code finds is the median of the window
  pub phase-found : phase_in c readings sums ≡ phase_of c middle readings
  phase-found = go (heard readings) refl
    where
      -- the centre that the code takes is a reading
      from : is_reading c (centre_heard middle readings) ≡ true → {p : ℕ}
          → phase_from c (centre_heard middle readings) readings sums ≡ p
          → phase_in c readings sums ≡ p
      from r e = rw
          (tick-or-silent c (centre_heard middle readings) (omega (arith, w.cycle_fits)) r) e

      go : (l : List ℕ) → heard readings ≡ l → phase_in c readings sums ≡ phase_of c middle readings
      go [] e =
          let d = stand_in_none c middle readings h.readings_good member e in
          from (silent-reading c _ d) (none_found c readings sums d
          ∙ sym (of_none c middle readings h.readings_good member e))
      go (z ∷ l) e =
          let some : 0 < length (heard readings) = rw e (omega arith) in
          from (tick-reading c _ (a_tick some))
          (some-found some ∙ sym (of_chosen c middle readings h.readings_good member some))
