-- Outward from the centre, ahead before behind, the first tick with the least sum is the chosen
-- one. Where only one tick has the least sum, it is the chosen one.
use Prim.Native.Nat.{ℕ, ◌+◌, ◌-◌, ◌%◌, ◌≤◌, ◌<◌}
use mathlib.Core.Path.{◌≡◌, refl, ap, sym, ◌∙◌}
use mathlib.Core.Logic.{◌⊎◌, inl, inr, ⊎_elim}
use native.Mathlib.Omega.{arith}
use native.Mathlib.Decide.{dec_lt}
use native.Mathlib.Nat.{mod-lt}
use Rattle.lists.specs.Members.{In}
use Rattle.cycle.specs.Distance.{distance}
use Rattle.cycle.proofs.DistanceLaws.{distance_half}
use Rattle.cycle.proofs.Ways.{Way, way_mod, mod_way, way_back, distance_way}
use Rattle.median.specs.Choice.{candidates, IsChosen}
use Rattle.median.proofs.Rank.{reached}
use Rattle.median.proofs.Choice.{candidate, candidate_below}
use Rattle.std.specs.Prelude.{Option, Some, None, IsSome}
use Rattle.sums.specs.Memory.{AreSigned, lowest}
use Rattle.sums.proofs.Lowest.{lowest-least, lowest-found}
use Rattle.level_choice.specs.Walk.{HasPassed, WalkResult}

-- the tick e ahead of a
abbrev pub front : ℕ → ℕ → ℕ → ℕ
front c a e = (a + e) % c

-- the tick e behind a
abbrev pub rear : ℕ → ℕ → ℕ → ℕ
rear c a e = (a + (c - e)) % c

module _ (c a : ℕ) (ha : a < c) where
  -- both are ticks
  tick : (e : ℕ) → (a + e) % c < c
  tick e = mod-lt (a + e) (omega arith)

  -- the tick e ahead is at most e away
  front_near : (e : ℕ) → e ≤ c → distance c a (front c a e) ≤ e
  front_near e h =
      omega (arith, distance_way (c - e) ha (tick e) (omega arith) (mod_way c a e ha h))

  -- so is the tick e behind
  rear_near : (e : ℕ) → e ≤ c → distance c a (rear c a e) ≤ e
  rear_near e h = omega
      (arith, distance_way e ha (tick (c - e)) (omega arith) (mod_way c a (c - e) ha (omega arith)))

  -- each tick is the one ahead or the one behind at its distance
  two : (q : ℕ) → q < c → (q ≡ front c a (distance c a q)) ⊎ (q ≡ rear c a (distance c a q))
  two q h = ⊎_elim
      (λ (w : Way c a q (distance c a q)). inl (sym (way_mod h w)))
      (λ (w : Way c q a (distance c a q)). inr
      (sym (way_mod h (way_back (omega (arith, distance_half c a q ha h)) w))))
      (reached c a q ha h)

  module _ (sum : ℕ → ℕ) (least : ℕ) (is-lowest : least ≡ lowest sum c) where
    -- no sum is below the least one
    low : (q : ℕ) → q < c → least ≤ sum q
    low q h = omega (arith, lowest-least sum c q h)

    -- a tick p with the least sum, at most e away where no nearer one has it, is chosen if p is the
    -- one ahead wherever another tick at distance e has it too
    found : (e p : ℕ) → p < c → HasPassed c a sum least e → distance c a p ≤ e → sum p ≡ least
        → ((q : ℕ) → q < c → sum q ≡ least → distance c a q ≡ e → (q ≡ p → ⊥) → p ≡ front c a e)
        → IsChosen c a sum (candidates c) p
    found e p hp passed first_steps is ahead = record {
      candidate = candidate c p hp;
      least = λ q i. omega (arith, low q (candidate_below c q i));
      nearest = λ q i s. omega (arith, far q (candidate_below c q i) (s ∙ is));
      ahead = λ q i s d ne. ahead q (candidate_below c q i) (s ∙ is) (d ∙ at) ne
          ∙ ap (front c a) (sym at);
    }
      where
        far : (q : ℕ) → q < c → sum q ≡ least → e ≤ distance c a q
        far q h s = go (dec_lt (distance c a q) e)
          where
            go : Dec (distance c a q < e) → e ≤ distance c a q
            go (yes l) = absurd (passed q h l s)
            go (no l) = omega arith

        at : distance c a p ≡ e
        at = omega (arith, far p hp is)

    -- at step e the tick behind is chosen, where it has the least sum and the one ahead has not
    pub walked_rear : (e : ℕ) → e ≤ c → HasPassed c a sum least e → (sum (front c a e) ≡ least → ⊥)
        → sum (rear c a e) ≡ least
        → IsChosen c a sum (candidates c) (rear c a e)
    walked_rear e h passed no_front is =
        found e (rear c a e) (tick (c - e)) passed (rear_near e h) is third
      where
        third : (q : ℕ) → q < c → sum q ≡ least → distance c a q ≡ e → (q ≡ rear c a e → ⊥)
            → rear c a e ≡ front c a e
        third q g s d ne = ⊎_elim
            (λ (f : q ≡ front c a (distance c a q)). absurd
            (no_front (ap sum (sym (f ∙ ap (front c a) d)) ∙ s)))
            (λ (r : q ≡ rear c a (distance c a q)). absurd (ne (r ∙ ap (rear c a) d)))
            (two q g)

    -- at step e the tick ahead is chosen, where it has the least sum
    pub walked_front : (e : ℕ) → e ≤ c → HasPassed c a sum least e → sum (front c a e) ≡ least
        → IsChosen c a sum (candidates c) (front c a e)
    walked_front e h passed is =
        found e (front c a e) (tick e) passed (front_near e h) is (λ q g s d ne. refl)

    -- where neither has it, step e is passed
    pub passed_more : (e : ℕ) → HasPassed c a sum least e → (sum (front c a e) ≡ least → ⊥)
        → (sum (rear c a e) ≡ least → ⊥) → HasPassed c a sum least (e + 1)
    passed_more e passed f r q h l s = go (dec_lt (distance c a q) e)
      where
        go : Dec (distance c a q < e) → ⊥
        go (yes n) = passed q h n s
        go (no n) =
            let d : distance c a q ≡ e = omega arith in
            ⊎_elim
            (λ (x : q ≡ front c a (distance c a q)). f (ap sum (sym (x ∙ ap (front c a) d)) ∙ s))
            (λ (x : q ≡ rear c a (distance c a q)). r (ap sum (sym (x ∙ ap (rear c a) d)) ∙ s))
            (two q h)

    module _ (signed : AreSigned sum c) where
      -- some tick has the least sum
      some : (q : ℕ) × (q < c) × (sum q ≡ least)
      some = let x = lowest-found sum c (omega arith) signed in (x.0, x.1, x.2 ∙ sym is-lowest)

      -- so a walk over all steps meets a tick
      pub walked_all : (r : Option ℕ) → WalkResult c a sum least c r → IsSome r
      walked_all (Some p) x = refl
      walked_all None x =
          absurd (x some.0 some.1 (omega (arith, distance_half c a some.0 ha some.1)) some.2)

      -- the only tick with the least sum is chosen
      pub found_only : (p : ℕ) → ((q : ℕ) → q < c → sum q ≡ least → q ≡ p)
          → IsChosen c a sum (candidates c) p
      found_only p only = record {
        candidate = candidate c p (omega (arith, some.1, at));
        least = λ q i. omega (arith, low q (candidate_below c q i), is);
        nearest = λ q i s. omega (arith, ap (distance c a) (same q i s));
        ahead = λ q i s d ne. absurd (ne (same q i s));
      }
        where
          at : some.0 ≡ p
          at = only some.0 some.1 some.2

          is : sum p ≡ least
          is = ap sum (sym at) ∙ some.2

          same : (q : ℕ) → In q (candidates c) → sum q ≡ sum p → q ≡ p
          same q i s = only q (candidate_below c q i) (s ∙ is)
