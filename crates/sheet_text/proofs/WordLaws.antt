-- Laws of the sheet's words: that of a phase, and a word with its number behind what was put.
use Rattle.std.proofs.Common.{◌≡◌, ℕ, List, ◌++◌, append_assoc}
use Rattle.std.specs.Prelude.{codes, decimal}
use Rattle.cycle.specs.Silence.{silent}
use Rattle.cycle.proofs.SilenceLaws.{unheard, not_silent}
use Rattle.sheet_text.specs.declared.text.Text.{Text}
use Rattle.sheet_text.specs.Text.{AppendsText}
use Rattle.sheet_text.proofs.TextLaws.{appended_more}
use Rattle.sheet_text.specs.Lines.{phase_word}

-- a silent phase
pub word_silent : (p : ℕ) → p ≡ silent → phase_word p ≡ codes "-"
unfolding phase_word
word_silent p e = rw (unheard _ e)

-- a heard phase
pub word_heard : (p : ℕ) → (p ≡ silent → ⊥) → phase_word p ≡ decimal p
unfolding phase_word
word_heard p d = rw (not_silent p d)

-- a word and a number more
pub appended_counted : {t t₁ t₂ : Text} {bytes : List ℕ} (word number : List ℕ)
    → AppendsText t bytes t₁ → AppendsText t₁ (word ++ number) t₂
    → AppendsText t (bytes ++ word ++ number) t₂
appended_counted word number p q = rw append_assoc (appended_more p q)
