-- The tick is computed from the centre, or from tick 0 where that is silent, and counts only where
-- it is heard.
use Rattle.std.proofs.Common.{◌≡◌, ℕ, ◌<◌, true, cond, ◌∙◌, arith}
use Rattle.cycle.specs.Silence.{silent, is_heard, is_reading}
use Rattle.cycle.proofs.SilenceLaws.{unheard, heard_case, heard-tick}
use Rattle.median.specs.Ranks.{tick_of, phase_by}
use Rattle.median.proofs.RankLaws.{tick_below}
use Rattle.median.proofs.ranks.phase_by.Goals as goal
use Rattle.median.proofs.ranks.phase_by.Goals.{After-tick_or_0}

-- a heard centre, or tick 0, is a tick
tick-below-cycle : (c a : ℕ) {t : ℕ} → is_reading c a ≡ true → 0 < c → t ≡ cond (is_heard a) a 0
    → t < c
tick-below-cycle c a r some e =
    heard_case a (λ h. rw (e, h) (heard-tick c a r h)) (λ d. rw (e, unheard _ d) some)

-- what is answered is the phase: the tick where the centre is heard, else silent
found : (c a r : ℕ) {t x y : ℕ} → t ≡ cond (is_heard a) a 0 → x ≡ tick_of c t r
    → y ≡ cond (is_heard a) x silent → y ≡ phase_by c a r
unfolding phase_by
found c a r e x y =
    heard_case a (λ h. let own : _ ≡ a = e ∙ rw h in y ∙ rw (h, x, own)) (λ d. y ∙ rw (unheard _ d))

-- what the tick is computed from is a tick
below : (c : After-tick_or_0) → c.tick_or_0.result < c.args.cycle
below c = tick-below-cycle c.args.cycle c.args.centre c.requires.0 c.requires.1 c.tick_or_0.ensures

pub tick_of-tick-requires : goal.tick_of-tick-requires
tick_of-tick-requires c = (below c, c.requires.2, c.requires.3)

pub overflow_cast-tick : goal.overflow_cast-tick
overflow_cast-tick c =
    omega (
      arith,
      tick_below c.args.cycle c.tick_or_0.result c.args.rank
          (below (goal.at.overflow_cast-tick c).After-tick_or_0),
      c.tick_of-tick.ensures,
      c.requires.3,
    )

pub returns : goal.returns
returns c =
    let a = c.args in
    found a.cycle a.centre a.rank c.tick_or_0.ensures c.tick_of-tick.ensures c.unless_silent.ensures
