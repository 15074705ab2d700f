-- The words of the phases so far are put.
use Rattle.std.proofs.Common.{take}
use Rattle.sheet_text.specs.Text.{AppendsText}
use Rattle.sheet_text.specs.Lines.{phase_words}
use Rattle.sheet_text.proofs.append_phases.Given as goal

abbrev pub invariant-loop-phase : goal.invariant-loop-phase
invariant-loop-phase l = AppendsText l.initial.text (phase_words (take l.phase-index l.row)) l.text
