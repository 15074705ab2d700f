-- Lines that hold readings can be measured against each other, as far as a padded row goes.
use Prim.Native.Nat.{ℕ, ◌+◌, ◌≤◌, ◌<◌}
use mathlib.Core.Path.{◌≡◌, sym, ◌∙◌}
use mathlib.Core.Logic.{inl, inr, ∥∥₁_elim}
use mathlib.Core.Bool.{Bool, true}
use mathlib.Core.List.{List}
use native.Mathlib.Omega.{arith}
use denote.Struct.Props.{props}
use lib.ListN.{get_or, take, drop}
use Rattle.std.proofs.lemmas.List.{length-take, length-drop}
use Rattle.sums.proofs.Memory.{part-reads}
use Rattle.refusal.specs.Limits.{longest_cycle}
use Rattle.refusal.specs.Outcome.{IsClear}
use Rattle.cycle.specs.Distance.{distance}
use Rattle.cycle.specs.List.{listed_cycle}
use Rattle.shape.specs.Rules.{shape_rules}
use Rattle.shape.specs.declared.Shape.{Shape}
use Rattle.median.specs.Sum.{share, is_short}
use Rattle.median.proofs.Sum.{share-heard, share_short}
use Rattle.lines.specs.Lines.{HoldsReadings, IsLine, line_length, padded_length}
use Rattle.reading_sums.specs.Passes.{IsMeasurable}
use Rattle.reading_sums.specs.Listed.{AreListedReadings}
use Rattle.reading_sums.proofs.Sums.{sizes}
use Rattle.reading_sums.specs.CarryLines.{IsPlain, AreCarryLines}

-- in a short cycle silence needs no test
pub short_plain : (s : Shape) (own row : List ℕ) {plain : Bool} → plain ≡ is_short s.cycle
    → plain ≡ true → IsPlain s own row
short_plain s own row e p = inl (sym e ∙ p)

-- the line of a sweep that carries has the length of a line
pub carried_long : {plain : Bool} {s : Shape} {own entering leaving : List ℕ}
    → ∥ AreCarryLines plain s own entering leaving ∥₁ → IsLine own
carried_long x = ∥∥₁_elim x (hlevel props) (λ c. c.own_reads.len)

module _ (s : Shape) (clear : IsClear (shape_rules longest_cycle s)) where
  -- a padded row fits in a line
  padded-fits : padded_length s ≤ line_length
  padded-fits = omega (
    arith,
    (sizes s clear).columns_fit,
    (sizes s clear).mask_columns_odd,
    (sizes s clear).mask_columns_fit,
  )

  module _ {plain : Bool} {own row : List ℕ} (x : HoldsReadings s own) (y : HoldsReadings s row)
      (p : plain ≡ true → IsPlain s own row) where
    -- where silence needs no test, the formula of the distance gives what a reading gains
    gains : plain ≡ true → (a b : ℕ) → a < padded_length s → b < padded_length s
        → distance s.cycle (get_or own a 0) (get_or row b 0)
        ≡ share s.cycle (get_or own a 0) (get_or row b 0)
    gains e a b h g = go (p e)
      where
        go : IsPlain s own row → distance s.cycle (get_or own a 0) (get_or row b 0)
            ≡ share s.cycle (get_or own a 0) (get_or row b 0)
        go (inl short) = share_short s.cycle _ _ short (x.readings a h) (y.readings b g)
        go (inr both) = sym (share-heard s.cycle _ _ (both.0 a h) (both.1 b g))

    -- so parts of the two lines can be measured
    pub measurable : (l at k m : ℕ) → k ≤ m → l + k ≤ padded_length s → at + m ≤ padded_length s
        → IsMeasurable plain s.cycle (take k (drop l own)) (take m (drop at row))
    measurable l at k m e h g = record {
      row_long = omega (
        arith,
        length-take k (drop l own),
        length-drop l own,
        length-take m (drop at row),
        length-drop at row,
        y.len,
        padded-fits,
      );
      plainly = λ t j b.
          let inside : j < k = omega (arith, length-take k (drop l own), b) in
          let within : j < m = omega arith in
          rw (part-reads own l k j inside, part-reads row at m j within)
          (gains t (l + j) (at + j) (omega arith) (omega arith));
    }

  -- The lines of a sweep that carries.
  module _ {plain : Bool} {own entering leaving : List ℕ}
      (x : ∥ AreCarryLines plain s own entering leaving ∥₁) where
    -- the line can be measured against the row that comes in
    pub entering_measurable : (l at k m : ℕ) → k ≤ m → l + k ≤ padded_length s
        → at + m ≤ padded_length s
        → IsMeasurable plain s.cycle (take k (drop l own)) (take m (drop at entering))
    entering_measurable l at k m e h g = ∥∥₁_elim x (hlevel props)
        (λ c. measurable c.own_reads c.entering_reads c.entering_plain l at k m e h g)

    -- and against the row that goes out
    pub leaving_measurable : (l at k m : ℕ) → k ≤ m → l + k ≤ padded_length s
        → at + m ≤ padded_length s
        → IsMeasurable plain s.cycle (take k (drop l own)) (take m (drop at leaving))
    leaving_measurable l at k m e h g = ∥∥₁_elim x (hlevel props)
        (λ c. measurable c.own_reads c.leaving_reads c.leaving_plain l at k m e h g)

-- on 360 ticks a part of a line that holds readings is what `distances_listed` and its companions
-- ask for (proofs/Listed.antt)
pub reads-listed : (s : Shape) {line : List ℕ} → s.cycle ≡ listed_cycle → HoldsReadings s line
    → (at k n : ℕ) → n ≤ k → at + n ≤ padded_length s
    → AreListedReadings (take k (drop at line)) n
reads-listed s {line} e x at k n short h j g =
    let inside : j < k = omega arith in
    rw (part-reads line at k j inside) (rw e at (x.readings (at + j) (omega arith)))
