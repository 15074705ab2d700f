-- Text as bytes, each a number, that is laid into lent memory piece by piece.
use Rattle.std.specs.Prelude.{ℕ, ◌+◌, ◌-◌, ◌^◌, ◌<◌, ◌≡◌, List, ◌++◌, length, take, drop}
use Rattle.sheet_text.specs.declared.text.Text.{Text}

-- memory with bytes laid into it from a place on, as many as there is room for; all else is as it
-- was
unfoldable pub memory_with : List ℕ → ℕ → List ℕ → List ℕ
memory_with t at bytes = take at t ++ (take (length t - at) bytes ++ drop (at + length bytes) t)

-- bytes were laid into t from place `at` on, which left t₁; the next place is the one behind them,
-- also where they were cut
pub record LaysText (t : List ℕ) (at : ℕ) (bytes : List ℕ) (next : ℕ) (t₁ : List ℕ) : Type 0 where
  pub memory : t₁ ≡ memory_with t at bytes
  pub after : next ≡ at + length bytes

-- bytes were put behind the text t, which left t₁ in the same memory: where the length of the whole
-- fits 64 bits, they are laid behind what was there
pub record AppendsText (t : Text) (bytes : List ℕ) (t₁ : Text) : Type 0 where
  pub same_memory : t₁.memory.ghost_name ≡ t.memory.ghost_name
  pub laid : t.length + length bytes < 2 ^ 64
      → LaysText t.memory.now t.length bytes t₁.length t₁.memory.now
