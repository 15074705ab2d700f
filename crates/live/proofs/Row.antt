-- A row pushed into a fresh window of length t: reading k is answered by what either engine writes
-- in that row t / 2 wakes before k, since the window of that spot lies within the row. From the
-- contracts of the calls alone. SPECIFICATION, "Guarantees".
use Rattle.std.proofs.Common.{ℕ, ◌+◌, ◌-◌, ◌*◌, ◌≤◌, ◌<◌, ◌≡◌, ap, sym, ◌∙◌, true, List, [], ◌∷◌}
use Rattle.std.proofs.Common.{◌++◌, append-nil, arith, zero-mul, add-one, lt-ltb, le-ltb, length}
use Rattle.std.proofs.Common.{get_or, take, drop, replicate, take-append-drop, get_or-take}
use Rattle.std.proofs.Common.{get_or-append-add, length-take-le, take-suc, Result, Ok}
use lib.ListN.{length-replicate}
use Rattle.std.proofs.lemmas.List.{get_or_default}
use Rattle.lists.specs.Members.{Each}
use Rattle.lists.specs.Tabulate.{tabulate}
use Rattle.lists.specs.Joined.{concat_from}
use Rattle.lists.specs.Keep.{keep}
use Rattle.lists.proofs.First.{all_good}
use Rattle.lists.proofs.Keep.{keep_all}
use Rattle.lists.proofs.Members.{each_get_or, each_split}
use Rattle.lists.proofs.Tabulate.{tabulate_cong}
use Rattle.refusal.specs.declared.Refusal.{Refusal}
use Rattle.refusal.specs.Outcome.{outcome}
use Rattle.refusal.specs.Outcome.Outcome.{accepted}
use Rattle.cycle.specs.Silence.{silent, is_reading}
use Rattle.cycle.proofs.SilenceLaws.{tick-reading}
use Rattle.shape.specs.Rules.{reach}
use Rattle.shape.specs.declared.Shape.{Shape}
use Rattle.window.specs.Mirror.{mirror}
use Rattle.window.specs.Window.{padded_at, block, window, centre}
use Rattle.window.specs.Phase.{phase}
use Rattle.window.proofs.Mirror.{mirror_below, mirror-middle}
use Rattle.filter.specs.declared.Engine.{Engine}
use Rattle.filter.specs.Calls.{FilterCall}
use Rattle.filter.proofs.CallLaws.{call-tested}
use Rattle.filter.proofs.Guarantees.{spot_filtered}
use Rattle.live.specs.declared.LiveWindow.{LiveWindow}
use Rattle.live.specs.declared.Live.{Live}
use Rattle.live.specs.declared.Live.TheVariants.{Filling}
use Rattle.live.specs.Window.{latest_of, reading_at, live_phase, result_of, result_after}
use Rattle.live.specs.Calls.{FreshCall}
use Rattle.live.specs.Pushes.{Pushes, row_shape}
use Rattle.live.proofs.Latest.{reading-place, latest-is}
use Rattle.live.proofs.Sizes.{Sizes, window_clear}
use Rattle.live.proofs.Pushes.{fresh_history, push_due_accepted, answer_of_push}

-- the row up to reading k has k + 1 readings
length_front : (row : List ℕ) (k : ℕ) → k < length row → length (take (k + 1) row) ≡ k + 1
length_front row k h = length-take-le (k + 1) row (omega arith)

module _ (c t : ℕ) (row : List ℕ) (k : ℕ) (odd : t ≡ 2 * reach t + 1) (from : t ≤ k + 1)
    (upto : k < length row) where
  -- the row as an image
  abbrev s : Shape
  s = row_shape c (length row) t

  -- the readings up to reading k
  abbrev pushed : List ℕ
  pushed = take (k + 1) row

  -- the last t of them are a stretch of the row
  reading_row : (i : ℕ) → i < t → reading_at t pushed i ≡ get_or row (k + 1 - t + i) 0
  reading_row i h =
      reading-place t pushed i
      ∙ ap (λ (p : ℕ). get_or (replicate t silent ++ pushed) p silent)
      (omega (arith, length_front row k upto, length-replicate t silent))
      ∙ get_or-append-add (replicate t silent) pushed (k + 1 - t + i) silent
      ∙ get_or-take (k + 1) row (k + 1 - t + i) silent (omega arith)
      ∙ get_or_default row (k + 1 - t + i) silent 0 (omega arith)

  -- the window of the spot t / 2 before reading k is the same stretch, which no edge cuts
  padded_row : (i : ℕ) → i < t
      → padded_at 0 s row 0 (k - reach t + i) ≡ get_or row (k + 1 - t + i) 0
  unfolding padded_at
  padded_row i h =
      let top : mirror 1 (reach 1) 0 ≡ 0 =
      omega (arith, mirror_below 1 (reach 1) 0 (omega arith)) in
      let inside : mirror (length row) (reach t) (k - reach t + i) ≡ k - reach t + i - reach t =
      mirror-middle (length row) (reach t) (k - reach t + i) (omega arith) (omega arith) in
      let place : mirror 1 (reach 1) 0 * length row
      + mirror (length row) (reach t) (k - reach t + i) ≡ k + 1 - t + i =
      omega (arith, ap (λ (m : ℕ). m * length row) top, inside) in
      ap (λ (p : ℕ). get_or row p 0) place

  -- so the window is the last t readings
  window_row : window 0 s row 0 (k - reach t) ≡ latest_of t pushed
  unfolding window block concat_from
  window_row =
      append-nil (tabulate (padded_at 0 s row 0) (k - reach t) t)
      ∙ tabulate_cong (padded_at 0 s row 0) (reading_at t pushed) (k - reach t) 0 t
      (λ i h. padded_row i h ∙ sym (reading_row i h) ∙ ap (reading_at t pushed) (omega arith))
      ∙ sym (latest-is t pushed)

  -- their centres are the same reading
  centre_row : centre 0 s row 0 (k - reach t) ≡ reading_at t pushed (reach t)
  unfolding centre
  centre_row =
      ap (λ (p : ℕ). get_or row p 0) (omega arith) ∙ sym (reading_row (reach t) (omega arith))

  -- so the phase of the spot is that of the live window
  pub row_phase : phase s row 0 (k - reach t) ≡ live_phase c t pushed
  unfolding phase live_phase
  row_phase = rw (window_row, centre_row)

-- Readings pushed into a fresh window.
module _ {c t : ℕ} {old w w₁ : LiveWindow} {row : List ℕ} {answers : List (Result Live Refusal)}
    (fresh : FreshCall c t old (Ok tt) w) (pushes : Pushes w row answers w₁)
    (good : Each (λ x. is_reading c x ≡ true) row) where
  -- the window has passed its tests
  sizes : Sizes c t
  sizes = window_clear c t (fresh_history fresh).tested

  -- the answer to reading k is that of the readings up to it
  row_answer : (k : ℕ) (d : Result Live Refusal) → k < length row
      → outcome (get_or answers k d) ≡ accepted (result_after c t (take (k + 1) row))
  row_answer k d h =
      let front = (each_split (λ x. is_reading c x ≡ true) (take k row) (drop k row)
      (rw (take-append-drop k row) good)).0 in
      let all : keep (is_reading c) (take k row) ≡ take k row =
      keep_all (is_reading c) (take k row) front in
      let reads : is_reading c (get_or row k 0) ≡ true =
      each_get_or (λ x. is_reading c x ≡ true) row k good (tick-reading c 0 sizes.cycle_some) in
      let whole : take k row ++ (get_or row k 0 ∷ []) ≡ take (k + 1) row =
      rw (add-one k) (sym (take-suc row k 0 h)) in
      answer_of_push (fresh_history fresh) pushes k d h
      ∙ rw (all, ← whole)
      (push_due_accepted c t (take k row) (get_or row k 0) (fresh_history fresh).tested reads)

  -- filling before reading t - 1
  pub row_filling : (k : ℕ) (d : Result Live Refusal) → k < length row → k + 1 < t
      → outcome (get_or answers k d) ≡ accepted Filling
  unfolding result_after
  row_filling k d h l = row_answer k d h
      ∙ rw (lt-ltb (length (take (k + 1) row)) t (omega (arith, length_front row k h)))

  -- and from there on the phase
  pub row_filled : (k : ℕ) (d : Result Live Refusal) → k < length row → t ≤ k + 1
      → outcome (get_or answers k d) ≡ accepted (result_of (live_phase c t (take (k + 1) row)))
  unfolding result_after
  row_filled k d h l = row_answer k d h
      ∙ rw (le-ltb (length (take (k + 1) row)) t (omega (arith, length_front row k h)))

-- From reading t - 1 on, reading k is answered by the output at column k - t / 2 of an accepted
-- filter call on the row.
pub live_filtered : {e : Engine} {c t : ℕ} {old w w₁ : LiveWindow} {row : List ℕ}
    {answers : List (Result Live Refusal)} {output work output₁ work₁ : List ℕ}
    → FreshCall c t old (Ok tt) w → Pushes w row answers w₁
    → FilterCall e (row_shape c (length row) t) 0 1 row output work (Ok tt) output₁ work₁
    → (k : ℕ) (d : Result Live Refusal) → k < length row → t ≤ k + 1
    → outcome (get_or answers k d) ≡ accepted (result_of (get_or output₁ (k - reach t) 0))
live_filtered {e} {c} {t} {row = row} {output = output} {work}
    {output₁} fresh pushes call k d h from =
    let s = row_shape c (length row) t in
    let sizes = window_clear c t (fresh_history fresh).tested in
    let tested = call-tested e s 0 1 row (length output) (length work) (sym call.answer) in
    let good : Each (λ x. is_reading c x ≡ true) row = all_good (is_reading c) row tested.good in
    let written : get_or output₁ (0 * length row + (k - reach t)) 0 ≡ phase s row 0 (k - reach t) =
    spot_filtered call 0 (k - reach t) (omega arith) (omega arith) (omega (arith, sizes.odd)) in
    let there : k - reach t ≡ 0 * length row + (k - reach t) =
    omega (arith, zero-mul (length row)) in
    let same : get_or output₁ (k - reach t) 0 ≡ live_phase c t (take (k + 1) row) =
    ap (λ (p : ℕ). get_or output₁ p 0) there ∙ written ∙ row_phase c t row k sizes.odd from h in
    rw same (row_filled fresh pushes good k d h from)
