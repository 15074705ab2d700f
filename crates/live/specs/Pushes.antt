-- Readings pushed one after the other, each into the window that the push before handed back.
use Rattle.std.specs.Prelude.{ℕ, List, [], ◌∷◌, Result}
use Rattle.refusal.specs.declared.Refusal.{Refusal}
use Rattle.shape.specs.declared.Shape.{Shape}
use Rattle.live.specs.declared.LiveWindow.{LiveWindow}
use Rattle.live.specs.declared.Live.{Live}
use Rattle.live.specs.Calls.{PushCall}

-- any number of readings were pushed into a window, with their answers and the last window
pub data Pushes : LiveWindow → List ℕ → List (Result Live Refusal) → LiveWindow → Type 0 where
  done : {w : LiveWindow} → Pushes w [] [] w
  next : {w w₁ w₂ : LiveWindow} {x : ℕ} {xs : List ℕ} {r : Result Live Refusal}
      {rs : List (Result Live Refusal)} → PushCall w x r w₁ → Pushes w₁ xs rs w₂
      → Pushes w (x ∷ xs) (r ∷ rs) w₂

-- a row of n readings as an image of one row, under a mask of one row and t columns
abbrev pub row_shape : ℕ → ℕ → ℕ → Shape
row_shape c n t = record { cycle = c; rows = 1; columns = n; mask_rows = 1; mask_columns = t }
