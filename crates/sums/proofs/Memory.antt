-- Laws of passes over lent memory and of its changed parts: one number more, parts beside a changed
-- one, parts that were lent and have come back.
use Rattle.std.proofs.Common.{◌≡◌, ℕ, ◌+◌, ◌<◌, ◌≤◌, List, ◌++◌, length, get_or, set, take, drop}
use Rattle.std.proofs.Common.{replicate, rules, sym, refl, ap, ◌∙◌, zero-add, arith, length-set}
use Rattle.std.proofs.Common.{get_or-set_other, get_or-set_same}
use native.Mathlib.Decide.{ℕ_discrete}
use borrow.Rule.Slice.PartMut.{put_mid}
use Rattle.std.proofs.lemmas.List.{places}
use Rattle.sums.specs.Parts.{zeros}
use Rattle.sums.specs.Memory.{Tabulates, IsBegun, Holds, Changed, Outside}

-- A pass over all numbers of a list.
module _ {w₀ w : List ℕ} {f : ℕ → ℕ} {n : ℕ} (b : IsBegun w₀ w n f) where
  -- the pass sets the number at place n to f n, and has come to place n + 1
  pub begun_more : (v : ℕ) → n < length w₀ → v ≡ f n → IsBegun w₀ (set w n v) (n + 1) f
  begun_more v room e = record {
    len = length-set w n v ∙ b.len;
    done = λ q h. go q h (ℕ_discrete q n);
    left = λ q h. get_or-set_other w n q v 0 (omega arith) ∙ b.left q (omega arith);
  }
    where
      go : (q : ℕ) → q < n + 1 → Dec (q ≡ n) → get_or (set w n v) q 0 ≡ f q
      go q h (yes d) = rw d (get_or-set_same w n v 0 (omega (arith, b.len)) ∙ e)
      go q h (no d) = get_or-set_other w n q v 0 d ∙ b.done q (omega arith)

-- a pass at place 0 has changed nothing
pub begun_none : {w : List ℕ} {f : ℕ → ℕ} → IsBegun w w 0 f
begun_none = record { len = refl; done = λ q h. absurd (omega arith); left = λ q h. refl }

-- a part of q numbers, where q is n, is one of n numbers
pub changed_length : {w₀ w : List ℕ} {base q n : ℕ} {f : ℕ → ℕ} → Changed w₀ w base q f → q ≡ n
    → Changed w₀ w base n f
changed_length c e = rw e at c

-- where the changed part stands at the front, number q is f q
pub changed_first : {w₀ w : List ℕ} {n : ℕ} {f : ℕ → ℕ} → Changed w₀ w 0 n f → (q : ℕ) → q < n
    → get_or w q 0 ≡ f q
changed_first {w = w} c q h = ap (λ (k : ℕ). get_or w k 0) (sym (zero-add q)) ∙ c.holds q h

-- memory that did not change is as it was outside any part
pub outside-none : {w : List ℕ} {base n : ℕ} → Outside w w base n
outside-none = record { len = refl; before = λ k h. refl; after = λ k h. refl }

-- two changes, one after the other, within the same part
pub outside_more : {u v w : List ℕ} {base n : ℕ} → Outside u v base n → Outside v w base n
    → Outside u w base n
outside_more c d = record {
  len = d.len ∙ c.len;
  before = λ k h. d.before k h ∙ c.before k h;
  after = λ k h. d.after k h ∙ c.after k h;
}

-- a changed part holds g too, where f and g are equal at its places
pub changed_is : {w₀ w : List ℕ} {base n : ℕ} {f : ℕ → ℕ} (g : ℕ → ℕ) → Changed w₀ w base n f
    → ((q : ℕ) → q < n → f q ≡ g q) → Changed w₀ w base n g
changed_is g c e =
    record { len = c.len; before = c.before; holds = λ q h. c.holds q h ∙ e q h; after = c.after }

-- a part before the changed one holds what it held
pub holds-before : {w₀ w : List ℕ} {base n : ℕ} {f : ℕ → ℕ} → Changed w₀ w base n f
    → (a m : ℕ) (g : ℕ → ℕ) → a + m ≤ base → Holds w₀ a m g → Holds w a m g
holds-before c a m g l h q i = c.before (a + q) (omega arith) ∙ h q i

-- so does a part after it
pub holds_after : {w₀ w : List ℕ} {base n : ℕ} {f : ℕ → ℕ} → Changed w₀ w base n f
    → (a m : ℕ) (g : ℕ → ℕ) → base + n ≤ a → Holds w₀ a m g → Holds w a m g
holds_after c a m g l h q i = c.after (a + q) (omega arith) ∙ h q i

-- a change of the part right before one that may differ: both together are one such part
pub outside_lower : {w₀ w w' : List ℕ} {base n next m all : ℕ} {f : ℕ → ℕ} → Outside w₀ w next m
    → Changed w w' base n f → next ≡ base + n → all ≡ n + m
    → Outside w₀ w' base all
outside_lower x y e d = record {
  len = y.len ∙ x.len;
  before = λ k h. y.before k h ∙ x.before k (omega arith);
  after = λ k h. y.after k (omega arith) ∙ x.after k (omega arith);
}

-- Memory w once a part of it that was lent has come back: k numbers from place `base` on.
module _ {w : List ℕ} {base k n : ℕ} (part : List ℕ) (room : base + n ≤ length w) (e : k ≡ n)
    (len : length part ≡ length (take k (drop base w))) where
  -- outside the part it is as it was
  pub outside_part : Outside w (put_mid base k w part) base n
  outside_part = record {
    len = search (rules, places);
    before = search (rules, places);
    after =
        search (rules, places);
  }

  -- and the part holds what the lent slice held in the end
  pub changed_part : {f : ℕ → ℕ} → Tabulates part f → Changed w (put_mid base k w part) base n f
  changed_part each = record {
    len = outside_part.len;
    before = outside_part.before;
    holds = search (rules, places);
    after = outside_part.after;
  }

-- number q of a part as it is lent is number base + q of the memory
pub part-reads : (w : List ℕ) (base k q : ℕ) → q < k
    → get_or (take k (drop base w)) q 0 ≡ get_or w (base + q) 0
part-reads w base k q h = search (rules, places)

-- a part that was filled with zeros holds zeros
pub each_filled : {part : List ℕ} (n : ℕ) → part ≡ replicate n 0 → Tabulates part zeros
each_filled n e q h = search (rules, places)

-- where two parts at the front, one after the other, have come back, the rest is as it was
pub outside_two : {w back : List ℕ} {m n : ℕ} (a b : List ℕ) → back ≡ drop m w → length a ≡ m
    → length b ≡ n → m + n ≤ length w
    → Outside w (a ++ (b ++ drop n back)) 0 (m + n)
outside_two a b e p q room = rw e (record {
  len = search (rules, places);
  before =
      λ k h. absurd (omega arith);
  after = λ k h. search (rules, places);
})
