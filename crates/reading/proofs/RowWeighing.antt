-- The choice in all windows of a row at once, by the laws of one window at each column: nothing is
-- weighed, one reading of each window more, a mask row is done, and in the end the ranks give the
-- phases of the row.
use Rattle.std.specs.Prelude.{slice_index}
use Rattle.std.proofs.Common.{◌≡◌, ℕ, ◌+◌, ◌*◌, ◌<◌, ◌≤◌, true, List, [], ◌∷◌, ◌++◌, length, get_or}
use Rattle.std.proofs.Common.{sym, ap, ◌∙◌, append-nil, arith, ext_get_or}
use Rattle.lists.specs.Members.{In}
use Rattle.lists.specs.Tabulate.{tabulate}
use Rattle.lists.proofs.Members.{each_in, each_append, in_some}
use Rattle.lists.proofs.Tabulate.{length-tabulate, get_or-tabulate, each_tabulate}
use Rattle.lists.proofs.Keep.{keep_append, in_keep}
use Rattle.refusal.specs.Limits.{longest_cycle}
use Rattle.cycle.specs.Silence.{silent, is_heard, is_reading, heard}
use Rattle.cycle.proofs.SilenceLaws.{unheard, heard_case, heard-none, heard-tick, tick-heard}
use Rattle.cycle.proofs.SilenceLaws.{heard_yes, heard_no, heard_ticks}
use Rattle.shape.specs.declared.Shape.{Shape}
use Rattle.shape.proofs.Accepted.{Accepted, shape_clear}
use Rattle.median.specs.Sum.{sum_at, shares, AreTicks}
use Rattle.median.specs.Choice.{rank}
use Rattle.median.proofs.Sum.{shares_sum, shares-silent}
use Rattle.sums.specs.Memory.{Tabulates, Changed, AreSigned, no_sum}
use Rattle.sums.proofs.Memory.{changed_first}
use Rattle.window.specs.Window.{padded_at, block, part, window}
use Rattle.window.specs.Phase.{centre_at, phase, phase_at}
use Rattle.window.specs.Ready.{IsReady}
use Rattle.window.proofs.Sums.{each_block, in_block}
use Rattle.window.proofs.Part.{part_empty, part-next, part_row, part-whole}
use Rattle.window.proofs.Window.{padded-reading, heard_below, centre_at_in, centre_at_case}
use Rattle.window.proofs.Window.{centre_at_reading, shares-small}
use Rattle.window.proofs.Phase.{phase-at, phase-chosen, phase-none}
use Rattle.lines.specs.Lines.{IsPaddedLine, AreCentres}
use Rattle.reading_sums.proofs.Marks.{mark-none, mark-silent}
use Rattle.reading_sums.specs.Sums.{reading_sum}
use Rattle.reading_sums.proofs.Sums.{sum-signed}
use Rattle.reading.specs.Pairs.{rank_at, unweighed_sum, unweighed_rank, least_sum}
use Rattle.median.specs.Ranks.{phase_by}
use Rattle.reading.specs.Pairs.{nearest_rank, phases_by}
use Rattle.reading.specs.RowWeighed.{IsRowWeighed}
use Rattle.median.proofs.RankLaws.{rank_is}
use Rattle.median.proofs.Weighing.{weigh_more, weigh_none, weighed-none, weighed-signed}
use Rattle.median.proofs.Weighing.{weighed-chosen}

-- nothing is weighed yet
pub row_unweighed : {s : Shape} {image : List ℕ} {i : ℕ} {least₀ least nearest₀ nearest : List ℕ}
    → Changed least₀ least 0 s.columns unweighed_sum
    → Changed nearest₀ nearest 0 s.columns unweighed_rank → IsRowWeighed s image i 0 0 least nearest
row_unweighed {s} {image} {i} b n =
    record {
      weighed = λ j h. weighed-none (ap heard (part_empty 0 s image i j) ∙ heard-none)
          (changed_first b j h) (changed_first n j h);
    }

-- with all readings of a mask row weighed, the next row begins
pub row_last : {s : Shape} {image : List ℕ} {i k : ℕ} {least nearest : List ℕ}
    → IsRowWeighed s image i k s.mask_columns least nearest
    → IsRowWeighed s image i (k + 1) 0 least nearest
row_last {s} {image} {i} {k} w =
    record { weighed = λ j h. rw (part_row 0 s image i j k) at (w.weighed j h) }

module _ {s : Shape} {image : List ℕ} {i : ℕ} (ready : IsReady longest_cycle s image)
    (hi : i < s.rows) where
  -- the bounds of the sizes that have passed their tests
  sizes : Accepted longest_cycle s
  sizes = shape_clear longest_cycle s ready.shape

  -- the padded image holds readings
  reading : (a m : ℕ) → is_reading s.cycle (padded_at 0 s image a m) ≡ true
  reading = padded-reading ready (omega arith)

  -- the heard readings of a part of a window are ticks
  part_ticks : (j k l : ℕ) → j < s.columns → k < s.mask_rows → l ≤ s.mask_columns
      → AreTicks s.cycle (heard (part 0 s image i j k l))
  part_ticks j k l hj hk hl =
      let P : (ℕ → Type 0) = λ z. is_reading s.cycle z ≡ true in
      heard_ticks s.cycle (part 0 s image i j k l)
      (each_append P (block (padded_at 0 s image) s.mask_columns i j k)
      (tabulate (padded_at 0 s image (i + k)) j l)
      (each_block (padded_at 0 s image) s.mask_columns P i j k (λ a m p q u v. reading a m))
      (each_tabulate P (padded_at 0 s image (i + k)) j l (λ m u v. reading (i + k) m)))

  -- so the window's sums at them are below no sum
  part_small : (j k l : ℕ) → j < s.columns → k < s.mask_rows → l ≤ s.mask_columns → (q : ℕ)
      → In q (heard (part 0 s image i j k l))
      → shares s.cycle q (window 0 s image i j) < no_sum
  part_small j k l h hk hl q m =
      shares-small ready (omega arith) i j hi h q (each_in (λ z. z < s.cycle) q
      (heard (part 0 s image i j k l)) (part_ticks j k l h hk hl) m)

  -- the sums and ranks that are kept are below 2 ^ 31
  pub row_signed : {k l : ℕ} {least nearest : List ℕ} → k < s.mask_rows → l ≤ s.mask_columns
      → IsRowWeighed s image i k l least nearest
      → AreSigned (slice_index least) s.columns × AreSigned (slice_index nearest) s.columns
  row_signed {k} {l} hk hl w = (
    λ j h. (weighed-signed (w.weighed j h) (λ q m. omega (arith, part_small j k l h hk hl q m))),
    λ j h. (omega (arith, (w.weighed j h).nearest_cycle, sizes.cycle_fits)),
  )

  module _ {k l : ℕ} (hk : k < s.mask_rows) (hl : l < s.mask_columns) where
    -- so are the sums of a plane
    pub plane_signed : (sums : List ℕ) {own : List ℕ} → IsPaddedLine s image (i + k) own
        → ((j : ℕ) → j < s.columns → get_or sums j 0 ≡ reading_sum s image i (i + k) l j)
        → AreSigned (slice_index sums) s.columns
    plane_signed sums x is j h =
        omega (arith, is j h, sum-signed ready x l j hl h hi)

    module _ (j : ℕ) (h : j < s.columns) where
      -- the next reading of the window
      abbrev q : ℕ
      q = padded_at 0 s image (i + k) (l + j)

      -- where it is heard, the centre, or what stands in for it, is a tick
      centre-tick : is_heard q ≡ true → centre_at s image i j < s.cycle
      unfolding window
      centre-tick e =
          let member : In q (window 0 s image i j) =
          in_block (padded_at 0 s image) s.mask_columns i j s.mask_rows (i + k) (l + j)
          (omega arith) (omega arith) (omega arith) (omega arith) in
          let some = in_some q (heard (window 0 s image i j))
          (in_keep is_heard q (window 0 s image i j) e member) in
          each_in (λ z. z < s.cycle) _ (heard (window 0 s image i j))
          (heard_below ready (omega arith) i j hi h)
          (centre_at_in ready (omega arith) i j hi h some)

      -- the heard readings of the part with one reading more: it joins them if it is heard
      more_heard : is_heard q ≡ true
          → heard (part 0 s image i j k l) ++ (q ∷ []) ≡ heard (part 0 s image i j k (l + 1))
      more_heard e =
          ap (λ (x : List ℕ). heard (part 0 s image i j k l) ++ x)
          (sym (heard_yes q [] e ∙ ap (λ (x : List ℕ). q ∷ x) heard-none))
          ∙ sym (keep_append is_heard (part 0 s image i j k l) (q ∷ []))
          ∙ ap heard (part-next 0 s image i j k l)

      -- and leaves them as they are if it is silent
      more_silent : q ≡ silent
          → heard (part 0 s image i j k l) ≡ heard (part 0 s image i j k (l + 1))
      more_silent e =
          sym (append-nil (heard (part 0 s image i j k l)))
          ∙ ap (λ (x : List ℕ). heard (part 0 s image i j k l) ++ x)
          (sym (heard_no q [] e ∙ heard-none))
          ∙ sym (keep_append is_heard (part 0 s image i j k l) (q ∷ []))
          ∙ ap heard (part-next 0 s image i j k l)

    -- with a plane weighed, one reading more of each window is weighed
    pub row_more : (sums readings centres : List ℕ) {own least least' nearest nearest' : List ℕ}
        → IsPaddedLine s image (i + k) own
        → ((j : ℕ) → j < s.columns → get_or centres j 0 ≡ centre_at s image i j)
        → ((j : ℕ) → j < s.columns → get_or sums j 0 ≡ reading_sum s image i (i + k) l j)
        → ((j : ℕ) → j < s.columns → get_or readings j 0 ≡ get_or own (l + j) 0)
        → Changed least least' 0 s.columns
        (least_sum sums (rank_at s.cycle centres readings) least nearest)
        → Changed nearest nearest' 0 s.columns
        (nearest_rank sums (rank_at s.cycle centres readings) least nearest)
        → IsRowWeighed s image i k l least nearest → IsRowWeighed s image i k (l + 1) least' nearest'
    row_more sums readings centres {own} x y is same b n w = record {
      weighed = λ j h.
          let z = q j h in
          let all = window 0 s image i j in
          rw (changed_first b j h, changed_first n j h)
          (heard_case z
          (λ e.
          let in-cycle : z < s.cycle = heard-tick s.cycle z (reading (i + k) (l + j)) e in
          let middle = centre-tick j h e in
          let nearest : rank_at s.cycle centres readings j
          ≡ rank s.cycle (centre_at s image i j) z =
          rw (y j h, same j h, x.holds (l + j) (omega (arith, sizes.mask_columns_odd)))
          (rank_is s.cycle (centre_at s image i j) z middle in-cycle sizes.cycle_fits) in
          let sum : get_or sums j 0 ≡ shares s.cycle z all = omega (arith, is j h, mark-none z e) in
          rw (← (more_heard j h e)) (weigh_more (w.weighed j h) middle z in-cycle sum nearest
          (rw sum (shares-small ready (omega arith) i j hi h z in-cycle))))
          (λ e.
          let sum : get_or sums j 0 ≡ no_sum =
          omega (arith, is j h, mark-silent z e, shares-silent s.cycle z all e) in
          rw (← (more_silent j h e))
          (weigh_none (w.weighed j h) (part_small j k l h hk (omega arith)) _ _ sum)));
    }

  module _ {centres : List ℕ} (y : AreCentres s image i centres) where
    -- each centre is a reading, and each rank that is kept is at most the cycle
    pub row_ranks : {k l : ℕ} {least nearest : List ℕ} → IsRowWeighed s image i k l least nearest
        → (j : ℕ) → j < s.columns
        → (is_reading s.cycle (get_or centres j 0) ≡ true) × (get_or nearest j 0 ≤ s.cycle)
    row_ranks w j h = (
      rw (y.holds j h) (centre_at_reading ready (omega arith) i j hi h),
      (w.weighed j h).nearest_cycle,
    )

    -- with every reading of a window weighed, the rank that is kept gives its phase
    phase_by_rank : {least nearest : List ℕ} → IsRowWeighed s image i s.mask_rows 0 least nearest
        → (j : ℕ) → j < s.columns
        → phases_by s.cycle centres nearest j ≡ phase s image i j
    unfolding phase_by
    phase_by_rank {least} {nearest} w j h =
        let zs = heard (window 0 s image i j) in
        let all = rw (part-whole 0 s image i j) at (w.weighed j h) in
        let ticks = heard_below ready (omega arith) i j hi h in
        rw (y.holds j h)
        (centre_at_case ready (omega arith) i j hi h
        (λ member tick.
        let is : (q : ℕ) → In q zs → shares s.cycle q (window 0 s image i j) ≡ sum_at s.cycle q zs =
        λ q m. shares_sum s.cycle q (window 0 s image i j)
        (tick-heard s.cycle q sizes.cycle_fits (each_in (λ z. z < s.cycle) q zs ticks m)) in
        rw (tick-heard s.cycle (centre_at s image i j) sizes.cycle_fits tick)
        (weighed-chosen s.cycle (centre_at s image i j) zs ticks member _ is all
        ∙ sym (phase-chosen ready (omega arith) i j hi h (in_some _ zs member))))
        (λ none e. rw (unheard _ e) (sym (phase-none ready (omega arith) i j hi h none))))

    -- so the ranks give the phases of the row
    pub row_phases : {least nearest out : List ℕ} → length out ≡ s.columns
        → IsRowWeighed s image i s.mask_rows 0 least nearest
        → Tabulates out (phases_by s.cycle centres nearest)
        → out ≡ tabulate (phase_at s image) (i * s.columns) s.columns
    row_phases {out = out} len w x =
        ext_get_or 0 out _
        (len ∙ sym (length-tabulate (phase_at s image) (i * s.columns) s.columns))
        (λ j g.
        let h : j < s.columns = omega (arith, len) in
        x j g ∙ phase_by_rank w j h ∙ sym (phase-at s image i j h)
        ∙ sym (get_or-tabulate (phase_at s image) 0 (i * s.columns) s.columns j h))
