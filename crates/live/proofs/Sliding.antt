-- The sums of a live window: their size, and that the pass over its arrays leaves those of the
-- window with one reading more.
use Rattle.std.proofs.Common.{ℕ, ◌+◌, ◌-◌, ◌*◌, ◌/◌, ◌^◌, ◌≤◌, ◌<◌, ◌≡◌, ap, sym, ◌∙◌, true, List}
use Rattle.std.proofs.Common.{[], ◌∷◌, ◌++◌, arith, le-leb, get_or}
use Rattle.lists.specs.Members.{Each}
use Rattle.lists.specs.Tabulate.{tabulate}
use Rattle.lists.specs.Total.{total, total_from}
use Rattle.lists.proofs.Tabulate.{get_or-tabulate}
use Rattle.lists.proofs.Total.{total_more, total_places, total_from_cong}
use Rattle.refusal.specs.Limits.{live_cycle, live_length}
use Rattle.cycle.specs.Distance.{distance}
use Rattle.cycle.specs.Silence.{is_reading}
use Rattle.cycle.proofs.SilenceLaws.{heard_case}
use Rattle.cycle.proofs.DistanceLaws.{distance_symmetric, distance_self}
use Rattle.median.specs.Sum.{share, shares}
use Rattle.median.proofs.Sum.{share-heard, share-silent, share_half, share_short}
use Rattle.live.specs.Window.{latest_of, reading_at, sum_of}
use Rattle.live.specs.Passes.{distance_to, slid_sum, distances_to}
use Rattle.live.proofs.Choosing.{shares_most}
use Rattle.live.proofs.Sizes.{Sizes}
use Rattle.live.proofs.Latest.{latest-length, latest-is, reading-reads, reading-next}
use Rattle.live.proofs.Latest.{reading_newest, latest-total}

-- a reading adds nothing to its own sum
share_self : (c x : ℕ) → share c x x ≡ 0
share_self c x =
    heard_case x (λ h. share-heard c x x h h ∙ distance_self c x) (λ d. share-silent c x x d)

-- a sum of the last t is at most half a longest cycle for each place
pub shares_fit : (c t q : ℕ) (history : List ℕ) → Sizes c t
    → shares c q (latest_of t history) ≤ live_length * (live_cycle / 2)
shares_fit c t q history sizes =
    shares_most c q (latest_of t history) sizes.cycle_fits
    (omega (arith, latest-length t history, sizes.fits))

-- a list by its places
pub place-holds : (f : ℕ → ℕ) (n k : ℕ) → k < n → get_or (tabulate f 0 n) k 0 ≡ f k
place-holds f n k h = get_or-tabulate f 0 0 n k h ∙ ap f (omega arith)

-- the part of the array of readings that the last t take
abbrev pub window_readings : ℕ → List ℕ → List ℕ
window_readings t history = tabulate (reading_at t history) 0 t

-- the part of the array of sums
abbrev pub window_sums : ℕ → ℕ → List ℕ → List ℕ
window_sums c t history = tabulate (sum_of c t history) 0 t

module _ (c t : ℕ) (history : List ℕ) (x : ℕ) (sizes : Sizes c t)
    (good : Each (λ z. is_reading c z ≡ true) history)
    (reads : is_reading c x ≡ true) where
  -- on so short a cycle the distance of the formula is what a reading adds to a sum
  measured : (k z : ℕ) → is_reading c z ≡ true
      → distance c (reading_at t history k) z ≡ share c (reading_at t history k) z
  measured k z r = share_short c (reading_at t history k) z (le-leb c (2 ^ 15) (omega arith))
      (reading-reads c t history k good) r

  -- the sum at a reading that stays, with the newest added and the oldest taken off
  pub slid_sum_live : (k : ℕ) → k + 1 < t → slid_sum c x (window_readings t history)
      (window_sums c t history) k ≡ sum_of c t (history ++ (x ∷ [])) k
  unfolding slid_sum
  slid_sum_live k h =
      let q = reading_at t history (k + 1) in
      let oldest = reading_at t history 0 in
      let here : get_or (window_readings t history) (k + 1) 0 ≡ q =
      place-holds (reading_at t history) t (k + 1) (omega arith) in
      let first : get_or (window_readings t history) 0 0 ≡ oldest =
      place-holds (reading_at t history) t 0 (omega arith) in
      let sum : get_or (window_sums c t history) (k + 1) 0 ≡ shares c q (latest_of t history) =
      place-holds (sum_of c t history) t (k + 1) (omega arith) in
      let gain : distance c q x ≡ share c q x = measured (k + 1) x reads in
      let loss : distance c q oldest ≡ share c q oldest =
      measured (k + 1) oldest (reading-reads c t history 0 good) in
      rw (here, first, sum, gain, loss, reading-next t history x k h)
      (omega (
        arith,
        latest-total t history x (share c q) sizes.some,
        shares_fit c t q (history ++ (x ∷ [])) sizes,
        share_half c q oldest,
      ))

  -- the sum at the newest
  pub newest_live : distances_to c x (window_readings t history) (t - 1)
      ≡ sum_of c t (history ++ (x ∷ [])) (t - 1)
  unfolding distances_to
  newest_live =
      let now = reading_at t (history ++ (x ∷ [])) in
      let last : t ≡ (t - 1) + 1 = omega arith in
      let whole : shares c x (latest_of t (history ++ (x ∷ [])))
      ≡ total (share c x) (tabulate now 0 ((t - 1) + 1)) =
      ap (shares c x) (latest-is t (history ++ (x ∷ [])))
      ∙ ap (λ (n : ℕ). total (share c x) (tabulate now 0 n)) last in
      let own : share c x (now (0 + (t - 1))) ≡ 0 =
      ap (λ (k : ℕ). share c x (now k)) (omega arith)
      ∙ ap (share c x) (reading_newest t history x sizes.some) ∙ share_self c x in
      let rest : total_from (distance_to c x (window_readings t history)) 0 (t - 1)
      ≡ total_from (λ k. share c x (now k)) 0 (t - 1) =
      total_from_cong (distance_to c x (window_readings t history)) (λ k. share c x (now k)) 0 (t - 1)
      (λ k h g. gain k (omega arith)) in
      let due = total_more (share c x) now 0 (t - 1) in
      let places = total_places (share c x) now 0 (t - 1) in
      rw (reading_newest t history x sizes.some)
      (omega (arith, whole, own, rest, due, places, shares_fit c t x (history ++ (x ∷ [])) sizes))
    where
      gain : (k : ℕ) → k + 1 < t → distance_to c x (window_readings t history) k
          ≡ share c x (reading_at t (history ++ (x ∷ [])) k)
      gain k h =
          ap (λ (q : ℕ). distance c q x)
          (place-holds (reading_at t history) t (k + 1) (omega arith))
          ∙ distance_symmetric c (reading_at t history (k + 1)) x
          ∙ turned
          ∙ ap (share c x) (sym (reading-next t history x k h))
        where
          turned : distance c x (reading_at t history (k + 1))
              ≡ share c x (reading_at t history (k + 1))
          turned = share_short c x (reading_at t history (k + 1))
              (le-leb c (2 ^ 15) (omega arith)) reads (reading-reads c t history (k + 1) good)
