-- Laws of text that is laid into memory piece by piece.
use Rattle.std.proofs.Common.{◌≡◌, refl, ap, sym, ◌∙◌, ℕ, ◌+◌, ◌-◌, ◌^◌, min, ◌≤◌, ◌<◌, List, []}
use Rattle.std.proofs.Common.{◌++◌, length, take, drop, arith, append_assoc, append-nil, add-zero}
use Rattle.std.proofs.Common.{zero-add}
use Rattle.std.proofs.Math.Decide.{dec_le}
use Rattle.std.proofs.Math.Seq.{take-append-add}
use Rattle.std.proofs.lemmas.List.{length-append, length-take, length-drop, drop-drop, drop_all}
use Rattle.std.proofs.lemmas.List.{take_min, take_all, take_at, drop_at, take-append-le}
use Rattle.std.proofs.lemmas.List.{take-append-drop}
use borrow.Rule.Slice.PartMut.{put_mid}
use Rattle.sheet_text.specs.declared.text.Text.{Text}
use Rattle.sheet_text.specs.Text.{memory_with, LaysText, AppendsText}

-- memory after bytes for which there is room
laid-inside : (t : List ℕ) (at : ℕ) (bytes : List ℕ) → at + length bytes ≤ length t
    → memory_with t at bytes ≡ take at t ++ (bytes ++ drop (at + length bytes) t)
unfolding memory_with
laid-inside t at bytes h = rw (take_all (length t - at) bytes (omega arith))

-- memory after bytes that reach its end
laid_past : (t : List ℕ) (at : ℕ) (bytes : List ℕ) → length t ≤ at + length bytes
    → memory_with t at bytes ≡ take at t ++ take (length t - at) bytes
unfolding memory_with
laid_past t at bytes h = rw (drop_all (at + length bytes) t h, append-nil)

-- memory keeps its length
length-laid : (t : List ℕ) (at : ℕ) (bytes : List ℕ) → length (memory_with t at bytes) ≡ length t
unfolding memory_with
length-laid t at bytes = simp (length-append, length-take, length-drop) (omega arith)

-- what code lays: the bytes that fit, put in the place of those that were there
pub laid_part : (t : List ℕ) (at : ℕ) (bytes : List ℕ) (start fitting : ℕ) (part : List ℕ)
    → start ≡ min at (length t) → fitting ≡ min (length bytes) (length t - start)
    → part ≡ take fitting bytes
    → put_mid start (start + fitting - start) t part ≡ memory_with t at bytes
laid_part t at bytes start fitting part s f p =
    let count : start + fitting - start ≡ fitting = omega arith in
    let front : take start t ≡ take at t = rw s (take_min at t) in
    rw (count, drop-drop fitting start t, front, p) (go (dec_le (at + length bytes) (length t)))
  where
    go : Dec (at + length bytes ≤ length t)
        → take at t ++ (take fitting bytes ++ drop (start + fitting) t) ≡ memory_with t at bytes
    go (yes h) =
        let whole : fitting ≡ length bytes = omega arith in
        let here : start ≡ at = omega arith in
        rw (here, whole, take_all (length bytes) bytes (omega arith))
        (sym (laid-inside t at bytes h))
    go (no h) =
        let room : fitting ≡ length t - at = omega arith in
        let end : length t ≤ start + fitting = omega arith in
        rw (drop_all (start + fitting) t end, append-nil, room)
        (sym (laid_past t at bytes (omega arith)))

-- nothing is laid past the end
laid_beyond : (t : List ℕ) (at : ℕ) (bytes : List ℕ) → length t ≤ at → memory_with t at bytes ≡ t
laid_beyond t at bytes h =
    let e : length t - at ≡ 0 = omega arith in
    laid_past t at bytes (omega arith) ∙ rw (e, append-nil) (take_all at t h)

-- what is laid behind a front leaves the front
laid-behind : (front rest more : List ℕ) (n : ℕ) → length front ≡ n
    → memory_with (front ++ rest) n more ≡ front
    ++ (take (length rest) more ++ drop (length more) rest)
unfolding memory_with
laid-behind front rest more n e =
    let left : length (front ++ rest) - n ≡ length rest = omega (arith, length-append front rest) in
    rw (
      left,
      take_at front rest n e,
      ← (drop-drop (length more) n (front ++ rest)),
      drop_at front rest n e,
    )

-- bytes and then more, where there is room for the bytes
laid_twice : (t : List ℕ) (at : ℕ) (bytes more : List ℕ) → at + length bytes ≤ length t
    → memory_with (memory_with t at bytes) (at + length bytes) more
    ≡ memory_with t at (bytes ++ more)
unfolding memory_with
laid_twice t at bytes more h =
    let n = at + length bytes in
    let split : memory_with t at bytes ≡ (take at t ++ bytes) ++ drop n t =
    laid-inside t at bytes h ∙ sym (append_assoc (take at t) bytes (drop n t)) in
    let front : length (take at t ++ bytes) ≡ n = simp (length-append, length-take) (omega arith) in
    let left : length t - at ≡ length bytes + length (drop n t) = omega (arith, length-drop n t) in
    let past : at + length (bytes ++ more) ≡ n + length more =
    omega (arith, length-append bytes more) in
    ap (λ (l : List ℕ). memory_with l n more) split
    ∙ laid-behind (take at t ++ bytes) (drop n t) more n front
    ∙ rw (
      left,
      past,
      take-append-add bytes more (length (drop n t)),
      ← (drop-drop (length more) n t),
    ) (simp append_assoc)

-- bytes and then more, where the bytes reach the end
laid_end : (t : List ℕ) (at : ℕ) (bytes more : List ℕ) → length t ≤ at + length bytes
    → memory_with (memory_with t at bytes) (at + length bytes) more
    ≡ memory_with t at (bytes ++ more)
laid_end t at bytes more h =
    laid_beyond (memory_with t at bytes) (at + length bytes) more
    (omega (arith, length-laid t at bytes)) ∙ laid_past t at bytes h
    ∙ sym (laid_past t at (bytes ++ more) (omega (arith, length-append bytes more))
    ∙ rw (take-append-le (length t - at) bytes more (omega arith)))

module _ {t : List ℕ} {at : ℕ} where
  -- nothing is laid
  pub laid_none : LaysText t at [] at t
  laid_none = record { memory = sym (none (dec_le at (length t))); after = omega arith }
    where
      none : Dec (at ≤ length t) → memory_with t at [] ≡ t
      none (yes h) = laid-inside t at [] (omega arith) ∙ rw add-zero (take-append-drop at t)
      none (no h) = laid_beyond t at [] (omega arith)

  module _ {bytes : List ℕ} {next : ℕ} {t₁ : List ℕ} (l : LaysText t at bytes next t₁) where
    -- more is laid behind it
    pub laid_more : {more : List ℕ} {then : ℕ} {t₂ : List ℕ} → LaysText t₁ next more then t₂
        → LaysText t at (bytes ++ more) then t₂
    laid_more {more} {then} {t₂} m = record {
      memory = m.memory ∙ ap (λ (s : List ℕ). memory_with s next more) l.memory
          ∙ rw l.after (joined (dec_le (at + length bytes) (length t)));
      after = omega (arith, l.after, m.after, length-append bytes more);
    }
      where
        joined : Dec (at + length bytes ≤ length t) → memory_with (memory_with t at bytes)
            (at + length bytes) more ≡ memory_with t at (bytes ++ more)
        joined (yes h) = laid_twice t at bytes more h
        joined (no h) = laid_end t at bytes more (omega arith)

module _ {t : Text} where
  -- nothing is put
  pub appended_none : AppendsText t [] t
  appended_none = record { same_memory = refl; laid = λ fits. laid_none }

  -- one piece more
  pub appended_more : {bytes more : List ℕ} {t₁ t₂ : Text} → AppendsText t bytes t₁
      → AppendsText t₁ more t₂ → AppendsText t (bytes ++ more) t₂
  appended_more {bytes} {more} p q = record {
    same_memory = q.same_memory ∙ p.same_memory;
    laid = λ fits.
        let both : length (bytes ++ more) ≡ length bytes + length more = length-append bytes more in
        let l = p.laid (omega arith) in
        laid_more l (q.laid (omega (arith, l.after)));
  }

-- a text that began in the memory m, at its end
pub appended_laid : {m bytes m₁ : List ℕ} {end : ℕ} {t t₁ : Text} → AppendsText t bytes t₁
    → t.memory.now ≡ m → t.length ≡ 0 → length bytes < 2 ^ 64
    → end ≡ t₁.length → m₁ ≡ t₁.memory.now → LaysText m 0 bytes end m₁
appended_laid {bytes} {t} p start at fits last end =
    let l = p.laid (omega arith) in
    record { memory = end ∙ l.memory ∙ rw (start, at); after = omega (arith, l.after) }

-- from the front on, where there is room for all of it
pub laid-front : {t bytes : List ℕ} {next : ℕ} {t₁ : List ℕ} → LaysText t 0 bytes next t₁
    → length bytes ≤ length t → t₁ ≡ bytes ++ drop (length bytes) t
laid-front {t} {bytes} l h = l.memory ∙ laid-inside t 0 bytes (omega arith) ∙ rw zero-add
