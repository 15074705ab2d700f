-- Laws of the last t readings of a history, and of one reading more.
use Rattle.std.proofs.Common.{ℕ, zero, suc, ◌+◌, ◌-◌, ◌≤◌, ◌<◌, ◌≡◌, refl, ap, sym, ◌∙◌, true, List}
use Rattle.std.proofs.Common.{[], ◌∷◌, ◌++◌, append_assoc, arith, length, get_or, replicate}
use Rattle.std.proofs.Common.{length-append, length-drop, get_or-drop}
use lib.ListN.{length-replicate, get_or-append, get_or-eq_default}
use lib.Seq.{get_or_at}
use Rattle.lists.specs.Members.{In, Each}
use Rattle.lists.specs.Tabulate.{tabulate}
use Rattle.lists.specs.Total.{total}
use Rattle.lists.proofs.Members.{each_append, each_get_or}
use Rattle.lists.proofs.Tabulate.{is_tabulate, tabulate_cong, each_tabulate, in_tabulate}
use Rattle.lists.proofs.Total.{total_on}
use Rattle.cycle.specs.Silence.{silent, is_reading}
use Rattle.cycle.proofs.SilenceLaws.{silent-reading}
use Rattle.shape.specs.Rules.{reach}
use Rattle.live.specs.Window.{latest_of, reading_at}

module _ (t : ℕ) (history : List ℕ) where
  -- the reading at place p of the line of t silent readings and then the history
  abbrev place : ℕ → ℕ
  place p = get_or (replicate t silent ++ history) p silent

  -- it has t places more than the history
  length_line : length (replicate t silent ++ history) ≡ t + length history
  length_line = length-append (replicate t silent) history
      ∙ ap (λ (n : ℕ). n + length history) (length-replicate t silent)

  -- place k of the window in that line
  pub reading-place : (k : ℕ) → reading_at t history k ≡ place (length history + k)
  unfolding reading_at latest_of
  reading-place k = get_or-drop (length history) (replicate t silent ++ history) k silent

  -- there are t of them
  pub latest-length : length (latest_of t history) ≡ t
  unfolding latest_of
  latest-length =
      length-drop (length history) (replicate t silent ++ history) ∙ omega (arith, length_line)

  -- the last t by their places
  pub latest-is : latest_of t history ≡ tabulate (reading_at t history) 0 t
  unfolding reading_at
  latest-is =
      is_tabulate silent (reading_at t history) 0 t latest-length
      (λ k h. ap (reading_at t history) (omega arith))

  -- behind them there is silence
  pub reading_beyond : (k : ℕ) → t ≤ k → reading_at t history k ≡ silent
  unfolding reading_at
  reading_beyond k h = get_or-eq_default (latest_of t history) silent (omega (arith, latest-length))

-- silent readings are readings
each_silent : (c t : ℕ) → Each (λ x. is_reading c x ≡ true) (replicate t silent)
each_silent c zero = tt
each_silent c (suc t) = (silent-reading c silent refl, each_silent c t)

-- every place holds a reading
pub reading-reads : (c t : ℕ) (history : List ℕ) (k : ℕ) → Each (λ x. is_reading c x ≡ true) history
    → is_reading c (reading_at t history k) ≡ true
reading-reads c t history k good =
    rw (reading-place t history k)
    (each_get_or (λ x. is_reading c x ≡ true) (replicate t silent ++ history) (length history + k)
    (each_append (λ x. is_reading c x ≡ true) (replicate t silent) history (each_silent c t) good)
    (silent-reading c silent refl))

-- and so each of the last t is one
pub latest-reads : (c t : ℕ) (history : List ℕ) → Each (λ x. is_reading c x ≡ true) history
    → Each (λ x. is_reading c x ≡ true) (latest_of t history)
latest-reads c t history good =
    rw (latest-is t history) (each_tabulate (λ x. is_reading c x ≡ true) (reading_at t history) 0 t
    (λ k h g. reading-reads c t history k good))

-- the middle one is one of them
pub middle_in : (t : ℕ) (history : List ℕ) → 0 < t
    → In (reading_at t history (reach t)) (latest_of t history)
middle_in t history h = rw (latest-is t history)
    (in_tabulate (reading_at t history) 0 t (reach t) (omega arith) (omega arith))

-- One reading more.
module _ (t : ℕ) (history : List ℕ) (x : ℕ) where
  -- the longer history
  abbrev more : List ℕ
  more = history ++ (x ∷ [])

  -- the longer history has one reading more
  length_more : length more ≡ length history + 1
  length_more = length-append history (x ∷ [])

  -- the reading comes behind all others
  line_more : replicate t silent ++ more ≡ (replicate t silent ++ history) ++ (x ∷ [])
  line_more = sym (append_assoc (replicate t silent) history (x ∷ []))

  -- the places before it hold what they held
  place-before : (p : ℕ) → p < t + length history → place t more p ≡ place t history p
  place-before p h =
      rw line_more (get_or-append (replicate t silent ++ history) (x ∷ []) silent p
      (omega (arith, length_line t history)))

  -- the last place holds the new reading
  place_newest : place t more (t + length history) ≡ x
  place_newest = rw line_more (get_or_at (replicate t silent ++ history) x [] silent
      (t + length history) (length_line t history))

  -- each reading moves one place to the front
  pub reading-next : (k : ℕ) → k + 1 < t → reading_at t more k ≡ reading_at t history (k + 1)
  reading-next k h =
      reading-place t more k ∙ ap (place t more) (omega (arith, length_more))
      ∙ place-before (length history + (k + 1)) (omega arith)
      ∙ sym (reading-place t history (k + 1))

  -- and the newest comes last
  pub reading_newest : 0 < t → reading_at t more (t - 1) ≡ x
  reading_newest h =
      reading-place t more (t - 1) ∙ ap (place t more) (omega (arith, length_more)) ∙ place_newest

  -- the last t readings before, as a stretch of the longer line
  latest-before : latest_of t history ≡ tabulate (place t more) (length history) t
  latest-before =
      latest-is t history
      ∙ tabulate_cong (reading_at t history) (place t more) 0 (length history) t
      (λ k h. ap (reading_at t history) (omega arith) ∙ reading-place t history k
      ∙ sym (place-before (length history + k) (omega arith)))

  -- the last t readings after, one place further
  latest-after : latest_of t more ≡ tabulate (place t more) (length history + 1) t
  latest-after =
      latest-is t more
      ∙ tabulate_cong (reading_at t more) (place t more) 0 (length history + 1) t
      (λ k h. ap (reading_at t more) (omega arith) ∙ reading-place t more k
      ∙ ap (place t more) (omega (arith, length_more)))

  -- the total of any number of a reading: the newest comes in and the oldest goes out
  pub latest-total : (f : ℕ → ℕ) → 0 < t → total f (latest_of t more) + f (reading_at t history 0)
      ≡ total f (latest_of t history) + f x
  latest-total f h =
      let oldest : reading_at t history 0 ≡ place t more (length history) =
      reading-place t history 0 ∙ sym (place-before (length history + 0) (omega arith))
      ∙ ap (place t more) (omega arith) in
      let newest : place t more (length history + t) ≡ x =
      ap (place t more) (omega arith) ∙ place_newest in
      rw (latest-after, latest-before, oldest) (total_on f (place t more) (length history) t
      ∙ ap (λ (z : ℕ). total f (tabulate (place t more) (length history) t) + f z) newest)
