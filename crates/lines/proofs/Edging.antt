-- The edges of a row in a line, mirrored outward from the row: one number more at each end.
use Prim.Native.Nat.{ℕ, ◌+◌, ◌-◌, ◌*◌, ◌≤◌, ◌<◌}
use mathlib.Core.Path.{◌≡◌, refl, ap, sym, ◌∙◌}
use mathlib.Core.List.{List}
use native.Mathlib.Omega.{arith}
use native.Mathlib.Decide.{ℕ_discrete}
use lib.ListN.{length, get_or, set, length-set}
use lib.Seq.{get_or-set_same, get_or-set_other}
use Rattle.window.specs.Mirror.{mirror}
use Rattle.window.proofs.Mirror.{mirror-inside, mirror-start, mirror-end}
use Rattle.lines.specs.Lines.{mirrored_number}

-- the row and k numbers at each end of it are the mirrored ones, and the rest is as it was
pub record Edging (line₀ line : List ℕ) (n h k : ℕ) : Type 0 where
  pub len : length line ≡ length line₀
  pub within : (p : ℕ) → h ≤ p + k → p < h + n + k → get_or line p 0 ≡ mirrored_number line₀ n h p
  pub before : (p : ℕ) → p + k < h → get_or line p 0 ≡ get_or line₀ p 0
  pub after : (p : ℕ) → h + n + k ≤ p → get_or line p 0 ≡ get_or line₀ p 0

module _ {line₀ : List ℕ} {n h : ℕ} where
  -- with no number at the ends: the row is itself
  pub edging_none : Edging line₀ line₀ n h 0
  edging_none = record {
    len = refl;
    within = λ p g l.
        let here : p ≡ (p - h) + h = omega arith in
        let there : h + mirror n h p ≡ p =
        omega (arith, ap (mirror n h) here, mirror-inside n h (p - h) (omega arith)) in
        ap (λ (i : ℕ). get_or line₀ i 0) (sym there);
    before = λ p g. refl;
    after = λ p g. refl;
  }

  -- one number more at each end, from the one as far inside
  pub edging_more : {line : List ℕ} {k : ℕ} → Edging line₀ line n h k → 0 < n → k < h
      → n + 2 * h ≤ length line₀
      → let low = set line (h - 1 - k) (get_or line (h + k) 0) in
      Edging line₀ (set low (h + n + k) (get_or low (h + n - 1 - k) 0)) n h (k + 1)
  edging_more {line} {k} c some l room = record {
    len = length-set low (h + n + k) v ∙ length-set line (h - 1 - k) u ∙ c.len;
    within = λ p g i. go p g i (ℕ_discrete p (h + n + k)) (ℕ_discrete p (h - 1 - k));
    before = λ p g. other p (omega arith) (omega arith) ∙ c.before p (omega arith);
    after = λ p g. other p (omega arith) (omega arith) ∙ c.after p (omega arith);
  }
    where
      u : ℕ
      u = get_or line (h + k) 0

      low : List ℕ
      low = set line (h - 1 - k) u

      v : ℕ
      v = get_or low (h + n - 1 - k) 0

      both : List ℕ
      both = set low (h + n + k) v

      -- places that stand for the same index
      same : (p q : ℕ) → mirror n h p ≡ mirror n h q
          → mirrored_number line₀ n h p ≡ mirrored_number line₀ n h q
      same p q e = ap (λ (i : ℕ). get_or line₀ (h + i) 0) e

      other : (p : ℕ) → (p ≡ h + n + k → ⊥) → (p ≡ h - 1 - k → ⊥)
          → get_or both p 0 ≡ get_or line p 0
      other p a b =
          get_or-set_other low (h + n + k) p v 0 a ∙ get_or-set_other line (h - 1 - k) p u 0 b

      go : (p : ℕ) → h ≤ p + (k + 1) → p < h + n + (k + 1) → Dec (p ≡ h + n + k)
          → Dec (p ≡ h - 1 - k) → get_or both p 0 ≡ mirrored_number line₀ n h p
      go p g i (yes a) d =
          let there : h + n + k ≡ h + (n + k) = omega arith in
          rw a (get_or-set_same low (h + n + k) v 0
          (omega (arith, length-set line (h - 1 - k) u, c.len))
          ∙ get_or-set_other line (h - 1 - k) (h + n - 1 - k) u 0 (omega arith)
          ∙ c.within (h + n - 1 - k) (omega arith) (omega arith)
          ∙ same (h + n - 1 - k) (h + n + k)
          (sym (mirror-end n h k some (omega arith)) ∙ ap (mirror n h) (sym there)))
      go p g i (no a) (yes d) =
          rw d (get_or-set_other low (h + n + k) (h - 1 - k) v 0 (omega arith)
          ∙ get_or-set_same line (h - 1 - k) u 0 (omega (arith, c.len))
          ∙ c.within (h + k) (omega arith) (omega arith)
          ∙ same (h + k) (h - 1 - k) (sym (mirror-start n h k some l)))
      go p g i (no a) (no d) = other p a d ∙ c.within p (omega arith) (omega arith)
