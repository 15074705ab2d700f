-- Where the sums are true, the phase by the least key is the median of the window.
use Rattle.std.proofs.Common.{◌≡◌, ◌∙◌}
use Rattle.live.specs.Passes.{phase_from, phase_in}
use Rattle.live.proofs.Choosing.{phase-found}
use Rattle.live.proofs.choice.phase_in.Goals as goal

pub returns-clause-median : goal.returns-clause-median
unfolding phase_from
returns-clause-median c = λ h.
    let a = c.args in
    let here : c.phase_by.result ≡ phase_in a.cycle a.readings.now a.sums.now =
    rw (
      c.phase_by.ensures,
      c.min.ensures,
      c.least_key-key.ensures,
      c.tick_or_silent-centre.ensures,
      c.centre_of.ensures,
    ) in
    here ∙ phase-found c.requires h
