-- Laws of the sums over the places with a value v: their bound, and what they are where the count
-- is 1.
use Prim.Native.Nat.{ℕ, zero, suc, ◌+◌, ◌*◌, ◌≤◌, ◌<◌}
use mathlib.Core.Path.{◌≡◌, refl, ap, sym, ◌∙◌}
use native.Mathlib.Omega.{arith}
use native.Mathlib.Decide.{ℕ_discrete}
use native.Mathlib.Numerals.{add-one}
use borrow.Author.Tests.{eq-eqb, ne_eqb}
use Rattle.level_choice.specs.Count.{if_equal, sum_where, count_of, places_of}

-- where y is v it is x
pub if-equal : (y v x : ℕ) → y ≡ v → if_equal y v x ≡ x
if-equal y v x e = rw (eq-eqb y v e)

-- where y is not v it is 0
pub if_not : (y v x : ℕ) → (y ≡ v → ⊥) → if_equal y v x ≡ 0
if_not y v x ne = rw (ne_eqb y v ne)

module _ (f : ℕ → ℕ) (v : ℕ) where
  -- over no places the sum is 0
  pub sum-none : (w : ℕ → ℕ) → sum_where f v w 0 ≡ 0
  unfolding sum_where
  sum-none w = refl

  -- one place more
  pub sum_turn : (w : ℕ → ℕ) (n : ℕ) {s r x : ℕ} → s ≡ sum_where f v w n → x ≡ w n
      → r ≡ if_equal (f n) v x → s + r ≡ sum_where f v w (n + 1)
  unfolding sum_where
  sum_turn w n e d g = rw (add-one n) (cc)

  -- n numbers of at most m add up to at most n m
  pub sum_most : (w : ℕ → ℕ) (m n : ℕ) → ((q : ℕ) → q < n → w q ≤ m) → sum_where f v w n ≤ n * m
  unfolding sum_where
  sum_most w m zero h = omega arith
  sum_most w m (suc n) h = go (ℕ_discrete (f n) v) (sum_most w m n (λ q l. h q (omega arith)))
    where
      go : Dec (f n ≡ v) → sum_where f v w n ≤ n * m
          → sum_where f v w n + if_equal (f n) v (w n) ≤ suc n * m
      go (yes e) r = omega (arith, if-equal (f n) v (w n) e, h n (omega arith))
      go (no e) r = omega (arith, if_not (f n) v (w n) e)

  -- the count is above 0 where some place has the value
  count_some : (n p : ℕ) → p < n → f p ≡ v → 0 < count_of f v n
  unfolding sum_where
  count_some zero p h e = absurd (omega arith)
  count_some (suc n) p h e = go (ℕ_discrete p n) (count_some n p)
    where
      go : Dec (p ≡ n) → (p < n → f p ≡ v → 0 < count_of f v n)
          → 0 < count_of f v n + if_equal (f n) v 1
      go (yes d) r = omega (arith, if-equal (f n) v 1 (ap f (sym d) ∙ e))
      go (no d) r = omega (arith, r (omega arith) e)

  -- where the count is 0 nothing is added up
  count_none : (w : ℕ → ℕ) (n : ℕ) → count_of f v n ≡ 0 → sum_where f v w n ≡ 0
  unfolding sum_where
  count_none w zero z = refl
  count_none w (suc n) z = go (ℕ_discrete (f n) v) (count_none w n)
    where
      go : Dec (f n ≡ v) → (count_of f v n ≡ 0 → sum_where f v w n ≡ 0)
          → sum_where f v w n + if_equal (f n) v (w n) ≡ 0
      go (yes e) r = absurd (omega (arith, if-equal (f n) v 1 e))
      go (no e) r = omega (arith, if_not (f n) v (w n) e, r (omega arith))

  -- where the count is 1 only the one place's number is added up
  single : (w : ℕ → ℕ) (n p : ℕ) → count_of f v n ≡ 1 → p < n → f p ≡ v → sum_where f v w n ≡ w p
  unfolding sum_where
  single w zero p one h e = absurd (omega arith)
  single w (suc n) p one h e = go (ℕ_discrete (f n) v) (ℕ_discrete p n) (single w n p)
    where
      go : Dec (f n ≡ v) → Dec (p ≡ n)
          → (count_of f v n ≡ 1 → p < n → f p ≡ v → sum_where f v w n ≡ w p)
          → sum_where f v w n + if_equal (f n) v (w n) ≡ w p
      go (yes g) (yes d) r =
          omega (
            arith,
            if-equal (f n) v (w n) g,
            ap w d,
            count_none w n (omega (arith, if-equal (f n) v 1 g)),
          )
      go (yes g) (no d) r =
          absurd (omega (arith, if-equal (f n) v 1 g, count_some n p (omega arith) e))
      go (no g) (yes d) r = absurd (g (ap f (sym d) ∙ e))
      go (no g) (no d) r = omega
          (arith, if_not (f n) v (w n) g, r (omega (arith, if_not (f n) v 1 g)) (omega arith) e)

  -- so the sum of the places is that place
  pub only_place : (n p : ℕ) → count_of f v n ≡ 1 → p < n → f p ≡ v → places_of f v n ≡ p
  only_place n p one h e = single (λ q. q) n p one h e

-- a pass over n places has counted those with the value and added them up
pub record Tallied (f : ℕ → ℕ) (v n count places : ℕ) : Type 0 where
  pub counted : count ≡ count_of f v n
  pub added : places ≡ places_of f v n

module _ {f : ℕ → ℕ} {v : ℕ} where
  -- before the first place both are 0
  pub tallied_none : Tallied f v 0 0 0
  tallied_none = record { counted = sym (sum-none f v _); added = sym (sum-none f v _) }

  module _ {n count places : ℕ} (t : Tallied f v n count places) where
    -- one place more
    pub tallied_more : {one place : ℕ} → one ≡ if_equal (f n) v 1 → place ≡ if_equal (f n) v n
        → Tallied f v (n + 1) (count + one) (places + place)
    tallied_more e d = record {
      counted = sum_turn f v (λ q. 1) n t.counted refl e;
      added =
          sum_turn f v (λ q. q) n t.added refl d;
    }

    -- the count is at most the number of places
    pub count_small : {one : ℕ} → one ≡ if_equal (f n) v 1 → count + one ≤ (n + 1) * 1
    count_small e = omega (
      arith,
      sum_turn f v (λ q. 1) n t.counted refl e,
      sum_most f v (λ q. 1) 1 (n + 1) (λ q h. omega arith),
    )

    -- and the sum of the places at most that number times a bound of them
    pub places_small : {place : ℕ} (m : ℕ) → n ≤ m → place ≡ if_equal (f n) v n
        → places + place ≤ (n + 1) * m
    places_small m within d = omega (
      arith,
      sum_turn f v (λ q. q) n t.added refl d,
      sum_most f v (λ q. q) m (n + 1) (λ q h. omega arith),
    )
