-- Laws of the rank, by how many ticks a tick lies ahead of the centre: the code's rank is the rank,
-- no rank is above the cycle, and each rank gives its tick back.
use Rattle.std.proofs.Common.{◌≡◌, ℕ, ◌+◌, ◌-◌, ◌*◌, ◌/◌, ◌%◌, ◌^◌, ◌<◌, ◌≤◌, min, Bool, true}
use Rattle.std.proofs.Common.{false, cond, not, eqb, leb, sym, ap, ◌∙◌, mod-lt, mod-eq_of_lt, arith}
use Rattle.std.proofs.Common.{eq-eqb, ne_eqb, le-leb}
use mir.Val.{bool_byte}
use native.Mathlib.Decide.{dec_le, ℕ_discrete}
use borrow.Author.Tests.{lt-leb}
use Rattle.refusal.specs.Limits.{longest_cycle}
use Rattle.cycle.specs.Distance.{distance}
use Rattle.cycle.specs.Step.{ahead}
use Rattle.cycle.proofs.Ways.{Way, WayAhead, ahead_way, ahead_only, way_only, way_mod, mod_way}
use Rattle.cycle.proofs.Ways.{mod_high, distance_way}
use Rattle.cycle.proofs.Ways.Way.{straight, round}
use Rattle.median.specs.Choice.{rank}
use Rattle.median.proofs.Rank.{rank-ahead, rank-behind}
use Rattle.median.specs.Ranks.{way_to, rank_by, rank_of, tick_of}

module _ (c a q : ℕ) (h : a < c) (g : q < c) where
  -- q lies `ahead c a q` ticks ahead of a
  there : WayAhead c a q (ahead c a q)
  there = ahead_way c a q h g

  -- the distance is the shorter of the two ways
  shorter : distance c a q ≡ min (ahead c a q) (c - ahead c a q)
  shorter = distance_way (c - ahead c a q) h g (omega (arith, there.less)) there.way

  -- where the way ahead is not longer, the rank is twice that way
  rank-front : ahead c a q ≤ c - ahead c a q → rank c a q ≡ 2 * ahead c a q
  rank-front l =
      let e : distance c a q ≡ ahead c a q = omega (arith, shorter) in
      rank-ahead c a q (ap (λ (x : ℕ). (a + x) % c) e ∙ way_mod g there.way)
      ∙ ap (λ (x : ℕ). 2 * x) e

  -- where the way behind is shorter, it is twice that way and one more
  rank_rear : c - ahead c a q < ahead c a q → rank c a q ≡ 2 * (c - ahead c a q) + 1
  rank_rear l =
      let e : distance c a q ≡ c - ahead c a q = omega (arith, shorter) in
      rank-behind c a q other ∙ ap (λ (x : ℕ). 2 * x + 1) e
    where
      -- the tick that lies as far ahead is another one, since the two ways differ
      other : (a + distance c a q) % c ≡ q → ⊥
      other m =
          let e : distance c a q ≡ c - ahead c a q = omega (arith, shorter) in
          let w : Way c a q (distance c a q) =
          rw m at (mod_way c a (distance c a q) h (omega arith)) in
          omega (arith, way_only (omega arith) there.less w there.way)

  -- of ticks the way in numbers of 16 bits is the way ahead
  way_is : c ≤ longest_cycle → way_to c a q ≡ ahead c a q
  unfolding way_to
  way_is fits = go (dec_le a q)
    where
      go : Dec (a ≤ q) → way_to c a q ≡ ahead c a q
      go (yes l) =
          rw (le-leb a q l)
          (mod_high (2 ^ 16) (q - a) (q + (2 ^ 16 - a) + 0) (omega arith) (omega arith)
          ∙ ahead_only h g (omega arith) (straight (omega arith)))
      go (no l) =
          rw (lt-leb a q (omega arith))
          (mod_high (2 ^ 16) (q + c - a) (q + (2 ^ 16 - a) + c) (omega arith) (omega arith)
          ∙ ahead_only h g (omega arith) (round (omega arith)))

  -- and the rank that the code computes is the rank
  pub rank_is : c ≤ longest_cycle → rank_of c a q ≡ rank c a q
  unfolding rank_by
  rank_is fits = rw (way_is fits) (go (dec_le (ahead c a q) (c - ahead c a q)))
    where
      go : Dec (ahead c a q ≤ c - ahead c a q) → rank_by c (ahead c a q) ≡ rank c a q
      go (yes l) =
          let e : min (ahead c a q) (c - ahead c a q) ≡ ahead c a q = omega arith in
          rw (eq-eqb _ _ e) (omega (arith, rank-front l))
      go (no l) =
          let e : min (ahead c a q) (c - ahead c a q) ≡ c - ahead c a q = omega arith in
          rw (ne_eqb (min (ahead c a q) (c - ahead c a q)) (ahead c a q) (omega arith))
          (omega (arith, rank_rear (omega arith)))

  -- no rank is above the cycle
  pub rank_cycle : rank c a q ≤ c
  rank_cycle = go (dec_le (ahead c a q) (c - ahead c a q))
    where
      go : Dec (ahead c a q ≤ c - ahead c a q) → rank c a q ≤ c
      go (yes l) = omega (arith, rank-front l, there.less)
      go (no l) = omega (arith, rank_rear (omega arith), there.less)

  -- the tick with the rank of q is q
  pub tick-rank : tick_of c a (rank c a q) ≡ q
  unfolding tick_of
  tick-rank = go (dec_le (ahead c a q) (c - ahead c a q))
    where
      go : Dec (ahead c a q ≤ c - ahead c a q) → tick_of c a (rank c a q) ≡ q
      go (yes l) =
          let n = rank-front l in
          let half : rank c a q / 2 ≡ ahead c a q = omega arith in
          rw (eq-eqb (rank c a q % 2) 0 (omega arith), half) (way_mod g there.way)
      go (no l) =
          let n = rank_rear (omega arith) in
          let half : c - rank c a q / 2 ≡ ahead c a q = omega (arith, there.less) in
          rw (ne_eqb (rank c a q % 2) 0 (omega arith), half) (way_mod g there.way)

-- the way as the code computes it, where t is what it adds
pub way_by_code : (c a q t : ℕ) → a < 2 ^ 16 → t ≡ cond (leb a q) 0 c
    → ((q + (2 ^ 16 - a)) % 2 ^ 16 + t) % 2 ^ 16 ≡ way_to c a q
unfolding way_to
way_by_code c a q t h e = rw (← e) (omega arith)

-- the rank as the code computes it: the ways e ahead and r behind, d the lesser, and m is 1 where d
-- is not e
pub rank_by_code : (c e : ℕ) {r d m : ℕ} → r ≡ c - e → d ≡ min e r → m ≡ bool_byte (not (eqb d e))
    → d + d + m ≡ rank_by c e
unfolding rank_by
rank_by_code c e {r} {d} {m} u x y =
    let f : d ≡ min e (c - e) = omega arith in
    rw (← f) (go (eqb d e) y)
  where
    go : (b : Bool) → m ≡ bool_byte (not b) → d + d + m ≡ 2 * d + cond b 0 1
    go true y = omega (arith, y)
    go false y = omega (arith, y)

-- the tick with rank r lies at most a cycle ahead of its centre
pub way_fits : (c r : ℕ) → r ≤ c → cond (eqb (r % 2) 0) (r / 2) (c - r / 2) ≤ c
way_fits c r h = go (ℕ_discrete (r % 2) 0)
  where
    go : Dec (r % 2 ≡ 0) → cond (eqb (r % 2) 0) (r / 2) (c - r / 2) ≤ c
    go (yes e) = rw (eq-eqb (r % 2) 0 e) (omega arith)
    go (no e) = rw (ne_eqb (r % 2) 0 e) (omega arith)

-- The tick with rank r, which lies w ahead of the centre a.
module _ (c a r : ℕ) {w : ℕ} (e : w ≡ cond (eqb (r % 2) 0) (r / 2) (c - r / 2)) where
  -- below the cycle it is a + w
  pub tick-low : a + w < c → a + w ≡ tick_of c a r
  unfolding tick_of
  tick-low h = rw (← e) (sym (mod-eq_of_lt h))

  -- from the cycle on it is that less the cycle
  pub tick_high : c ≤ a + w → a + w < c + c → a + w - c ≡ tick_of c a r
  unfolding tick_of
  tick_high h g = rw (← e) (sym (mod_high c (a + w - c) (a + w) (omega arith) (omega arith)))

-- it is a tick
pub tick_below : (c a r : ℕ) → a < c → tick_of c a r < c
unfolding tick_of
tick_below c a r h = mod-lt _ (omega arith)
