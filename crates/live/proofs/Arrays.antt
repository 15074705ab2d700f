-- Laws of the arrays of a live window: once a reading has entered they are those of the longer
-- history.
use Rattle.std.proofs.Common.{ℕ, ◌+◌, ◌-◌, ◌≤◌, ◌<◌, ◌≡◌, nat_lt, if◌then◌else◌, ap, sym, ◌∙◌, true}
use Rattle.std.proofs.Common.{List, [], ◌∷◌, ◌++◌, append-nil, arith, lt-ltb, le-ltb, length, drop}
use Rattle.std.proofs.Common.{get_or, replicate}
use native.Mathlib.Decide.{dec_lt}
use lib.ListN.{length-replicate, get_or-replicate}
use Rattle.lists.specs.Members.{Each}
use Rattle.lists.specs.Tabulate.{tabulate}
use Rattle.lists.proofs.Tabulate.{length-tabulate, tabulate-append, is_tabulate, tabulate_cong}
use Rattle.std.proofs.lemmas.List.{drop_at}
use Rattle.refusal.specs.Limits.{live_length}
use Rattle.cycle.specs.Silence.{silent, is_reading}
use Rattle.median.proofs.Sum.{shares-silent}
use Rattle.live.specs.Window.{latest_of, reading_at, sum_of, readings_of, sums_of}
use Rattle.live.specs.Passes.{slid_sum, distances_to, last_of, entered_reading, entered_sum}
use Rattle.live.proofs.Sizes.{Sizes}
use Rattle.live.proofs.Latest.{reading-place, reading_beyond, reading-next, reading_newest}
use Rattle.live.proofs.Sliding.{place-holds, window_readings, window_sums, slid_sum_live, newest_live}

-- an array that is one number throughout
pub all_one : (v : ℕ) (f : ℕ → ℕ) → ((k : ℕ) → f k ≡ v)
    → replicate live_length v ≡ tabulate f 0 live_length
all_one v f e =
    is_tabulate 0 f 0 live_length (length-replicate live_length v)
    (λ k h. get_or-replicate live_length k v 0 h ∙ sym (e (0 + k)))

-- in a fresh window all readings are silent
pub fresh_reading : (t k : ℕ) → reading_at t [] k ≡ silent
fresh_reading t k = go (dec_lt k t)
  where
    go : Dec (k < t) → reading_at t [] k ≡ silent
    go (yes h) = reading-place t [] k ∙ rw (append-nil (replicate t silent))
        (get_or-replicate t (0 + k) silent silent (omega arith))
    go (no h) = reading_beyond t [] k (omega arith)

-- and all sums are 0
pub fresh_sum : (c t k : ℕ) → sum_of c t [] k ≡ 0
fresh_sum c t k = shares-silent c (reading_at t [] k) (latest_of t []) (fresh_reading t k)

-- a list by its places
part-is : (f : ℕ → ℕ) {part : List ℕ} {t : ℕ} → length part ≡ t
    → ((k : ℕ) → k < length part → get_or part k 0 ≡ f k) → part ≡ tabulate f 0 t
part-is f {part} {t} long each =
    is_tabulate 0 f 0 t long (λ k h. each k (omega arith) ∙ ap f (omega arith))

-- an array of which the first t places changed
array-is : (old new : ℕ → ℕ) (t : ℕ) → t ≤ live_length → ((k : ℕ) → t ≤ k → old k ≡ new k)
    → tabulate new 0 t ++ drop t (tabulate old 0 live_length) ≡ tabulate new 0 live_length
array-is old new t fits rest =
    let whole : live_length ≡ t + (live_length - t) = omega arith in
    let here : 0 + t ≡ t = omega arith in
    let split =
    λ (f : ℕ → ℕ). tabulate-append f 0 t (live_length - t) ∙ ap (tabulate f 0) (sym whole) in
    let left : drop t (tabulate old 0 live_length) ≡ tabulate old (0 + t) (live_length - t) =
    ap (drop t) (sym (split old)) ∙ drop_at (tabulate old 0 t)
    (tabulate old (0 + t) (live_length - t)) t (length-tabulate old 0 t) in
    ap (λ (l : List ℕ). tabulate new 0 t ++ l) (left ∙ tabulate_cong old new (0 + t) (0 + t)
    (live_length - t) (λ k h. rest (0 + t + k) (omega arith))) ∙ split new

module _ (c t : ℕ) (history : List ℕ) (x : ℕ) (sizes : Sizes c t)
    (good : Each (λ z. is_reading c z ≡ true) history)
    (reads : is_reading c x ≡ true) where
  -- the longer history
  abbrev more : List ℕ
  more = history ++ (x ∷ [])

  -- the readings that the window held
  abbrev readings : List ℕ
  readings = window_readings t history

  -- and their sums
  abbrev sums : List ℕ
  sums = window_sums c t history

  -- a window has t places
  last : last_of readings ≡ t - 1
  last = ap (λ (n : ℕ). n - 1) (length-tabulate (reading_at t history) 0 t)

  -- each place gets the reading of the longer history
  reading_inside : (k : ℕ) → k < t → entered_reading x readings k ≡ reading_at t more k
  reading_inside k h = rw last (go (dec_lt k (t - 1)))
    where
      go : Dec (k < t - 1)
          → (if nat_lt k (t - 1) then get_or readings (k + 1) 0 else x) ≡ reading_at t more k
      go (yes l) =
          rw (lt-ltb k (t - 1) l) (place-holds (reading_at t history) t (k + 1) (omega arith)
          ∙ sym (reading-next t history x k (omega arith)))
      go (no l) =
          let newest : k ≡ t - 1 = omega arith in
          rw (le-ltb k (t - 1) (omega arith))
          (sym (ap (reading_at t more) newest ∙ reading_newest t history x sizes.some))

  -- and its sum
  sum_inside : (k : ℕ) → k < t → entered_sum c x readings sums k ≡ sum_of c t more k
  sum_inside k h = rw last (go (dec_lt k (t - 1)))
    where
      go : Dec (k < t - 1)
          → (if nat_lt k (t - 1) then slid_sum c x readings sums k else distances_to c x readings
          (t - 1)) ≡ sum_of c t more k
      go (yes l) =
          rw (lt-ltb k (t - 1) l) (slid_sum_live c t history x sizes good reads k (omega arith))
      go (no l) =
          let newest : t - 1 ≡ k = omega arith in
          rw (le-ltb k (t - 1) (omega arith))
          (newest_live c t history x sizes good reads ∙ ap (sum_of c t more) newest)

  -- behind the window there is silence
  sum_beyond : (l : List ℕ) (k : ℕ) → t ≤ k → sum_of c t l k ≡ 0
  sum_beyond l k h = shares-silent c (reading_at t l k) (latest_of t l) (reading_beyond t l k h)

  -- The parts of the arrays that the window takes.
  module _ {part : List ℕ} (long : length part ≡ t) where
    -- the readings are those of the longer history
    pub readings_entered : ((k : ℕ) → k < length part
        → get_or part k 0 ≡ entered_reading x readings k) → part ≡ window_readings t more
    readings_entered each =
        part-is (reading_at t more) long (λ k h. each k h ∙ reading_inside k (omega arith))

    -- and so are the sums
    pub sums_entered : ((k : ℕ) → k < length part
        → get_or part k 0 ≡ entered_sum c x readings sums k) → part ≡ window_sums c t more
    sums_entered each =
        part-is (sum_of c t more) long (λ k h. each k h ∙ sum_inside k (omega arith))

  -- the whole array of readings, with what is behind the window
  pub readings_array : window_readings t more ++ drop t (readings_of t history) ≡ readings_of t more
  readings_array =
      array-is (reading_at t history) (reading_at t more) t sizes.fits
      (λ k h. reading_beyond t history k h ∙ sym (reading_beyond t more k h))

  -- the part of the array of sums
  pub sums_array : window_sums c t more ++ drop t (sums_of c t history) ≡ sums_of c t more
  sums_array = array-is (sum_of c t history) (sum_of c t more) t sizes.fits
      (λ k h. sum_beyond history k h ∙ sym (sum_beyond more k h))
