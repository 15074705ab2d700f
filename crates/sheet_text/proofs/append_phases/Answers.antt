-- One phase more is one word more.
use Rattle.std.proofs.Common.{[], ◌++◌, take, get_or}
use Rattle.std.proofs.lemmas.List.{take_more, flat_map_more}
use Rattle.sheet_text.proofs.TextLaws.{appended_none, appended_more}
use Rattle.std.specs.Prelude.{codes}
use Rattle.sheet_text.specs.Lines.{phase_word}
use Rattle.sheet_text.proofs.append_phases.Goals as goal

pub loop-phase-init : goal.loop-phase-init
loop-phase-init c = appended_none

pub loop-phase-preserved : goal.loop-phase-preserved
loop-phase-preserved c =
    let row = c.args.row.now in
    let i = c.loop-phase.phase-index in
    rw (
      take_more row i 0 c.loop-phase-test.true,
      ← (flat_map_more (λ p. codes " " ++ phase_word p) [] (take i row) (get_or row i 0)),
    )
    (appended_more c.loop-phase.invariant
    (appended_more c.append.ensures c.append_phase_word.ensures))
