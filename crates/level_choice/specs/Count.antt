-- Sums over the places at which numbers f 0, f 1, .. have a value v. Internal to the level engine.
use Rattle.std.specs.Prelude.{ℕ, zero, suc, ◌+◌, ◌==◌, if◌then◌else◌}

-- x if y is v, else 0
abbrev pub if_equal : ℕ → ℕ → ℕ → ℕ
if_equal y v x = (if y == v then x else 0)

-- the sum of w q over the places q below n at which f is v
unfoldable pub sum_where : (ℕ → ℕ) → ℕ → (ℕ → ℕ) → ℕ → ℕ
sum_where f v w zero = 0
sum_where f v w (suc n) = sum_where f v w n + if_equal (f n) v (w n)

-- how many of the places below n there are at which f is v
abbrev pub count_of : (ℕ → ℕ) → ℕ → ℕ → ℕ
count_of f v n = sum_where f v (λ q. 1) n

-- these places, added up
abbrev pub places_of : (ℕ → ℕ) → ℕ → ℕ → ℕ
places_of f v n = sum_where f v (λ q. q) n
