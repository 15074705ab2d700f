-- The ring of planes: those of R successive positions of the padded image do not overlap.
use Prim.Native.Nat.{ℕ, suc, ◌+◌, ◌*◌, ◌/◌, ◌%◌, ◌≤◌, ◌<◌}
use mathlib.Core.Path.{◌≡◌, refl, ap, sym, ◌∙◌}
use mathlib.Core.Logic.{◌⊎◌, inl, inr}
use mathlib.Core.List.{List}
use native.Mathlib.Omega.{arith}
use native.Mathlib.Decide.{dec_le, dec_lt, ℕ_discrete}
use native.Mathlib.Nat.{mod-lt, div-add-mod, mul-le-mul_left, mul-le-mul_right, mul_assoc}
use lib.ListN.{length, get_or, take, drop}
use borrow.Rule.Slice.PartMut.{put_mid}
use Rattle.shape.specs.Need.{reading_need}
use Rattle.shape.specs.declared.Shape.{Shape}
use Rattle.sums.specs.Memory.{Outside}
use Rattle.sums.proofs.Memory.{part-reads, changed_part, outside_part}
use Rattle.window.proofs.Window.{spot_below}
use Rattle.reading_sums.specs.Planes.{planes_length}
use Rattle.reading_sums.specs.Sums.{planes_place, HoldsPlaneSums, HoldsLineSums, HoldsMaskSums}

-- two numbers less than m apart leave different remainders
ring_step : (m a b : ℕ) → a < b → b < a + m → a % m ≡ b % m → ⊥
ring_step m a b h g e = go (dec_le (b / m) (a / m))
  where
    x : m * (a / m) + a % m ≡ a
    x = div-add-mod a m

    y : m * (b / m) + b % m ≡ b
    y = div-add-mod b m

    go : Dec (b / m ≤ a / m) → ⊥
    go (yes l) = omega (arith, x, y, mul-le-mul_left m l)
    go (no l) = let n : suc (a / m) ≤ b / m =
        omega arith in omega (arith, x, y, mul-le-mul_left m n)

-- two of m successive numbers leave different remainders
pub ring_apart : (m lo a b : ℕ) → lo ≤ a → a < lo + m → lo ≤ b → b < lo + m → (a ≡ b → ⊥)
    → a % m ≡ b % m → ⊥
ring_apart m lo a b p q u v ne e = go (dec_lt a b)
  where
    go : Dec (a < b) → ⊥
    go (yes l) = ring_step m a b l (omega arith) e
    go (no l) = ring_step m b a (omega arith) (omega arith) (sym e)

-- parts of n numbers at different places of the ring do not overlap
parts_apart : (n x y : ℕ) → (x ≡ y → ⊥) → (x * n + n ≤ y * n) ⊎ (y * n + n ≤ x * n)
parts_apart n x y ne = go (dec_lt x y)
  where
    go : Dec (x < y) → (x * n + n ≤ y * n) ⊎ (y * n + n ≤ x * n)
    go (yes l) = inl (omega (arith, mul-le-mul_right n l))
    go (no l) = let h : y < x = omega arith in inr (omega (arith, mul-le-mul_right n h))

-- the planes of a position lie within the need
pub place-room : (s : Shape) (a : ℕ) → 0 < s.mask_rows
    → planes_place s a + planes_length s ≤ reading_need s
place-room s a h =
    let r : suc (a % s.mask_rows) ≤ s.mask_rows = mod-lt a h in
    omega (
      arith,
      mul-le-mul_right (planes_length s) r,
      mul_assoc s.mask_rows s.mask_columns s.columns,
    )

-- the same of a part whose place is written otherwise
pub outside_at : {w w' : List ℕ} {base other n : ℕ} → base ≡ other → Outside w w' base n
    → Outside w w' other n
outside_at e x = rw e at x

module _ (s : Shape) {w w' : List ℕ} (a : ℕ)
    (x : Outside w w' (planes_place s a) (planes_length s)) where
  -- where the planes of position a changed, nothing past the need did
  pub outside-need : 0 < s.mask_rows → Outside w w' 0 (reading_need s)
  outside-need h = record {
    len = x.len;
    before = λ k l. absurd (omega arith);
    after = λ k l. x.after k (omega (arith, place-room s a h));
  }

  -- nor did the sums of a position at another place of the ring
  pub line_kept : {image : List ℕ} {i b : ℕ} → HoldsLineSums s image i w b
      → (b % s.mask_rows ≡ a % s.mask_rows → ⊥) → HoldsLineSums s image i w' b
  line_kept {image} {i} {b} h ne =
      record { holds = λ l hl q hq. same l hl q hq ∙ h.holds l hl q hq }
    where
      same : (l : ℕ) → l < s.mask_columns → (q : ℕ) → q < s.columns
          → get_or w' (planes_place s b + l * s.columns + q) 0
          ≡ get_or w (planes_place s b + l * s.columns + q) 0
      same l hl q hq = go (parts_apart (planes_length s) (b % s.mask_rows) (a % s.mask_rows) ne)
        where
          inside : l * s.columns + q < planes_length s
          inside = spot_below s.mask_columns s.columns l q hl hq

          go : (planes_place s b + planes_length s ≤ planes_place s a)
              ⊎ (planes_place s a + planes_length s ≤ planes_place s b)
              → get_or w' (planes_place s b + l * s.columns + q) 0
              ≡ get_or w (planes_place s b + l * s.columns + q) 0
          go (inl r) = x.before _ (omega (arith, inside))
          go (inr r) = x.after _ (omega (arith, inside))

-- one position more has the sums of row i
pub sums_more : (s : Shape) (image : List ℕ) {w w' : List ℕ} (i lo hi : ℕ)
    → HoldsMaskSums s image i w lo hi → lo ≤ hi → hi < lo + s.mask_rows
    → HoldsLineSums s image i w' hi → Outside w w' (planes_place s hi) (planes_length s)
    → HoldsMaskSums s image i w' lo (hi + 1)
sums_more s image {w} {w'} i lo hi r p q new x a u v = go (ℕ_discrete a hi)
  where
    go : Dec (a ≡ hi) → HoldsLineSums s image i w' a
    go (yes e) = rw e new
    go (no e) = line_kept s hi x (r a u (omega arith))
        (ring_apart s.mask_rows lo a hi u (omega arith) p q e)

-- without the first position, whose planes changed, the others still have the sums of row i
pub sums_less : (s : Shape) (image : List ℕ) {w w' : List ℕ} (i lo hi : ℕ)
    → HoldsMaskSums s image i w lo hi → hi ≤ lo + s.mask_rows
    → Outside w w' (planes_place s lo) (planes_length s) → HoldsMaskSums s image i w' (lo + 1) hi
sums_less s image i lo hi r p x a u v =
    line_kept s lo x (r a (omega arith) v) (ring_apart s.mask_rows lo a lo (omega arith)
    (omega arith) (omega arith) (omega arith) (omega arith))

-- The planes of one position, lent as a part of the work memory: k numbers from `base` on.
module _ {s : Shape} {image w : List ℕ} {i a : ℕ} (base k : ℕ) (start : base ≡ planes_place s a)
    (count : k ≡ planes_length s) where
  -- as they are lent they have the sums that were there
  pub lent_sums : HoldsLineSums s image i w a → HoldsPlaneSums s image i a (take k (drop base w))
  lent_sums x = record {
    holds = λ l hl q hq.
        let inside = spot_below s.mask_columns s.columns l q hl hq in
        let there : base + (l * s.columns + q) ≡ planes_place s a + l * s.columns + q =
        omega (arith, start) in
        part-reads w base k (l * s.columns + q) (omega (arith, inside, count))
        ∙ ap (λ (p : ℕ). get_or w p 0) there ∙ x.holds l hl q hq;
  }

  -- once they have come back, the work memory has the sums that they held in the end
  pub sums_back : (part : List ℕ) → base + planes_length s ≤ length w
      → length part ≡ length (take k (drop base w)) → HoldsPlaneSums s image i a part
      → HoldsLineSums s image i (put_mid base k w part) a
      × Outside w (put_mid base k w part) (planes_place s a) (planes_length s)
  sums_back part room len x = (
    record {
      holds = λ l hl q hq.
          let inside = spot_below s.mask_columns s.columns l q hl hq in
          let there : planes_place s a + l * s.columns + q ≡ base + (l * s.columns + q) =
          omega (arith, start) in
          let back = changed_part part room count len {f = λ p. get_or part p 0} (λ p h. refl) in
          ap (λ (p : ℕ). get_or (put_mid base k w part) p 0) there
          ∙ back.holds (l * s.columns + q) inside ∙ x.holds l hl q hq;
    },
    outside_at start (outside_part part room count len),
  )
