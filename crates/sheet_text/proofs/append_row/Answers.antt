-- The pieces of the line are laid one behind the other; its drift is answered, since the row has
-- passed its tests.
use Rattle.std.proofs.Common.{◌≡◌, sym, ◌∙◌}
use Rattle.std.specs.Prelude.{codes, Ok}
use Rattle.cycle.specs.Step.{drift}
use Rattle.cycle.proofs.SignedLaws.{to_z-fits}
use Rattle.sheet_text.proofs.TextLaws.{appended_more}
use Rattle.sheet_text.proofs.WordLaws.{appended_counted}
use Rattle.sheet_text.proofs.Drifts.{drift_answered}
use Rattle.sheet_text.proofs.append_row.Goals as goal
use Rattle.sheet_text.proofs.append_row.Goals.{After-drift}

-- the drift was answered
answered : (c : After-drift) → c.drift.result ≡ Ok (drift c.args.cycle c.args.row.now)
answered c = drift_answered c.args.cycle c.args.row.now c.drift.result c.requires c.drift.ensures

pub unwrap-drift-requires : goal.unwrap-drift-requires
unwrap-drift-requires c = rw (answered c)

pub returns : goal.returns
returns c =
    let same : Ok c.unwrap-drift.result ≡ Ok (drift c.args.cycle c.args.row.now) =
    sym c.unwrap-drift.ensures ∙ answered (goal.at.returns c).After-drift in
    let number : c.unwrap-drift.result ≡ drift c.args.cycle c.args.row.now = cc in
    let row = appended_more
    (appended_more c.append_counted.ensures c.append.ensures) c.append_phases.ensures in
    appended_more (appended_counted (codes " drift ") _ row
    (rw (to_z-fits c.unwrap-drift.type_inv ∙ number) at c.append_drift.ensures)) c.append-2.ensures
