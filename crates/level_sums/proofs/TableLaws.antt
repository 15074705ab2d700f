-- The table's part for a reading is what the reading adds to the sum at each tick: its distance, or
-- 0 if it is silent. The loop that fills the table.
use Prim.Native.Nat.{ℕ, zero, suc, ◌+◌, ◌-◌, ◌*◌, ◌%◌, ◌^◌, ◌≤◌, ◌<◌}
use mathlib.Core.Path.{◌≡◌, refl, ap, sym, ◌∙◌}
use mathlib.Core.List.{List, ◌++◌}
use native.Mathlib.Omega.{arith}
use native.Mathlib.Decide.{ℕ_discrete, dec_lt}
use native.Mathlib.Nat.{add_comm, mod-lt, add-mod_left}
use lib.ListN.{length, get_or, set, take, drop, replicate, length-set, length-replicate}
use lib.Seq.{get_or-set_same, get_or-set_other}
use Rattle.std.proofs.Common.{rules}
use Rattle.std.proofs.lemmas.List.{places}
use Rattle.refusal.specs.Limits.{level_cycle}
use Rattle.cycle.specs.Distance.{distance}
use Rattle.cycle.specs.Silence.{silent}
use Rattle.cycle.specs.Step.{ahead}
use Rattle.cycle.proofs.SilenceLaws.{tick-heard}
use Rattle.cycle.proofs.DistanceLaws.{distance_half, distance_symmetric}
use Rattle.cycle.proofs.Ways.{ahead_way, distance_way}
use Rattle.cycle.proofs.Ways.Way.{straight}
use Rattle.median.proofs.Sum.{share-heard, share-none}
use Rattle.level_sums.specs.Table.{IsTable, table_length, IsPartOf}

-- tick q is as far from y as the tick (q - y) modulo c is from tick 0
distance-ahead : (c y q : ℕ) → y < c → q < c → distance c (ahead c y q) 0 ≡ distance c q y
distance-ahead c y q h g =
    let r = ahead_way c y q h g in
    let e = ahead c y q in
    distance_symmetric c e 0
    ∙ distance_way (c - e) (omega arith) r.less (omega (arith, r.less)) (straight (omega arith))
    ∙ sym (distance_way (c - e) h g (omega (arith, r.less)) r.way)
    ∙ distance_symmetric c y q

module _ {c : ℕ} (fits : c ≤ level_cycle) where
  -- the part for a tick y starts at place c - y
  pub part-tick : {y start : ℕ} → y < c → start ≡ c - y → IsPartOf c y start
  unfolding ahead
  part-tick {y} {start} h e table t = record {
    room = omega (arith, t.len);
    shares = λ q g. rw
        (e, share-heard c q y (tick-heard c q (omega arith) g) (tick-heard c y (omega arith) h))
        (t.holds (c - y + q) (omega arith)
        ∙ ap (λ (x : ℕ). distance c (x % c) 0) (add_comm (c - y) q) ∙ distance-ahead c y q h g);
  }

  -- the part for a silent reading starts at place 2 c
  pub part-silent : {y start : ℕ} → y ≡ silent → start ≡ 2 * c → IsPartOf c y start
  part-silent {y} {start} d e table t = record {
    room = omega (arith, t.len);
    shares = λ q g. rw (share-none c q y (tick-heard c q (omega arith) g) d)
        (t.zeros (start + q) (omega arith));
  }

-- the table is filled up to place k, and zero from there on
pub record IsFilledTo (c : ℕ) (table : List ℕ) (k : ℕ) : Type 0 where
  pub len : length table ≡ table_length
  pub holds : (l : ℕ) → l < k → get_or table l 0 ≡ distance c (l % c) 0
  pub zeros : (l : ℕ) → k ≤ l → get_or table l 0 ≡ 0
  pub small : (l : ℕ) → get_or table l 0 < 2 ^ 16

-- a list of zeros has 0 at every place
zero_at : (n k : ℕ) → ◌≡◌ {A = ℕ} (get_or (replicate n 0) k 0) 0
zero_at zero k = refl
zero_at (suc n) zero = refl
zero_at (suc n) (suc k) = zero_at n k

-- a table of zeros is filled up to place 0
pub filling-none : {c : ℕ} → IsFilledTo c (replicate table_length 0) 0
filling-none = record {
  len = length-replicate {A = ℕ} table_length 0;
  holds = λ l h. absurd (omega arith);
  zeros = λ l h. zero_at table_length l;
  small = λ l. omega (arith, zero_at table_length l);
}

-- one place more
pub filling_turn : {c : ℕ} {table : List ℕ} {k v : ℕ} → IsFilledTo c table k → k < table_length → 0 < c
    → c ≤ level_cycle → v ≡ distance c (k % c) 0
    → IsFilledTo c (set table k v) (k + 1)
filling_turn {c} {table} {k} {v} f h some g e = record {
  len = length-set table k v ∙ f.len;
  holds = λ l i. new l i (ℕ_discrete l k);
  zeros = λ l i. get_or-set_other table k l v 0 (λ d. omega arith) ∙ f.zeros l (omega arith);
  small = λ l. all l (ℕ_discrete l k);
}
  where
    new : (l : ℕ) → l < k + 1 → Dec (l ≡ k) → get_or (set table k v) l 0 ≡ distance c (l % c) 0
    new l i (yes d) = rw d (get_or-set_same table k v 0 (omega (arith, f.len)) ∙ e)
    new l i (no d) = get_or-set_other table k l v 0 d ∙ f.holds l (omega arith)

    v_small : v < 2 ^ 16
    v_small = omega (arith, e, distance_half c (k % c) 0 (mod-lt k some) some)

    all : (l : ℕ) → Dec (l ≡ k) → get_or (set table k v) l 0 < 2 ^ 16
    all l (yes d) =
        rw d (omega (arith, v_small, get_or-set_same table k v 0 (omega (arith, f.len))))
    all l (no d) = omega (arith, get_or-set_other table k l v 0 d, f.small l)

-- filled up to place c, and with the first round copied over the second, it is the cycle's table
pub filling_all : {c : ℕ} {table front back second : List ℕ} {k : ℕ} → IsFilledTo c table k → k ≡ c
    → c ≤ level_cycle → front ≡ take c table → back ≡ drop c table → second ≡ front
    → IsTable c (front ++ (second ++ drop c back))
filling_all {c} {table} f e fits is-front is-back is-second =
    rw (is-second, is-front, is-back) (record {
      len = search (rules, places);
      holds = λ l h. go l h (dec_lt l c);
      zeros = λ l h. rest l h ∙ f.zeros l (omega arith);
      small = λ l. all l (dec_lt l c) (dec_lt l (2 * c));
    })
  where
    all_of : List ℕ
    all_of = take c table ++ (take c table ++ drop c (drop c table))

    first : (l : ℕ) → l < c → get_or all_of l 0 ≡ get_or table l 0
    first l h = search (rules, places)

    copied : (l : ℕ) → c ≤ l → l < 2 * c → get_or all_of l 0 ≡ get_or table (l - c) 0
    copied l h g = search (rules, places)

    rest : (l : ℕ) → 2 * c ≤ l → get_or all_of l 0 ≡ get_or table l 0
    rest l h = search (rules, places)

    go : (l : ℕ) → l < 2 * c → Dec (l < c) → get_or all_of l 0 ≡ distance c (l % c) 0
    go l h (yes d) = first l d ∙ f.holds l (omega arith)
    go l h (no d) =
        let back : c + (l - c) ≡ l = omega arith in
        copied l (omega arith) h ∙ f.holds (l - c) (omega arith)
        ∙ ap (λ (x : ℕ). distance c x 0) (sym (add-mod_left c (l - c)) ∙ ap (λ (x : ℕ). x % c) back)

    all : (l : ℕ) → Dec (l < c) → Dec (l < 2 * c) → get_or all_of l 0 < 2 ^ 16
    all l (yes d) g = omega (arith, first l d, f.small l)
    all l (no d) (yes g) = omega (arith, copied l (omega arith) g, f.small (l - c))
    all l (no d) (no g) = omega (arith, rest l (omega arith), f.small l)
