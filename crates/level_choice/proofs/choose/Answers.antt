-- A tally of 1 gives the only tick with the least sum; else the walk over all steps meets the
-- chosen one.
use Rattle.std.specs.Prelude.{slice_index}
use mathlib.Core.Path.{◌∙◌, sym}
use Rattle.level_choice.proofs.Outward.{walked_all, found_only}
use Rattle.level_choice.proofs.Count.{only_place}
use Rattle.level_choice.proofs.choose.Goals as goal

pub returns-then-tally-eq1 : goal.returns-then-tally-eq1
returns-then-tally-eq1 c =
    let a = c.args in
    let f = slice_index a.sums.now in
    found_only _ a.centre c.requires.tick f a.least c.requires.least c.requires.signed
    c.tally-tally.result.places
    (λ q h e. sym (c.tally-tally.ensures.places
    ∙ only_place f a.least _ q (sym c.tally-tally.ensures.count ∙ c.if-tally-eq1.true) h e))

pub unwrap-requires : goal.unwrap-requires
unwrap-requires c =
    let a = c.args in
    walked_all _ a.centre c.requires.tick (slice_index a.sums.now) a.least c.requires.least
    c.requires.signed c.walk-2.result c.walk-2.ensures
