-- Ranks, which settle equal sums (SPECIFICATION, "Equals"), as the code of the reading engine and of
-- the live window has them: of numbers that are no ticks too.
use Rattle.std.specs.Prelude.{ℕ, ◌+◌, ◌-◌, ◌*◌, ◌/◌, ◌%◌, ◌^◌, min, ◌==◌, nat_le, if◌then◌else◌}
use Rattle.cycle.specs.Silence.{silent, is_heard}

-- how many ticks q lies ahead of a, in numbers of 16 bits; of numbers that are no ticks some number
unfoldable pub way_to : ℕ → ℕ → ℕ → ℕ
way_to c a q = (q + (2 ^ 16 - a) + (if nat_le a q then 0 else c)) % 2 ^ 16

-- the rank of a tick that lies e ahead of the centre: twice the shorter way, and one more where
-- that is the way behind
unfoldable pub rank_by : ℕ → ℕ → ℕ
rank_by c e = 2 * min e (c - e) + (if min e (c - e) == e then 0 else 1)

-- the rank of q from the centre a; `rank_is`: of ticks it is `rank`
abbrev pub rank_of : ℕ → ℕ → ℕ → ℕ
rank_of c a q = rank_by c (way_to c a q)

-- the tick with rank r from the centre a: even ranks lie ahead, odd ones behind
unfoldable pub tick_of : ℕ → ℕ → ℕ → ℕ
tick_of c a r = (a + (if r % 2 == 0 then r / 2 else c - r / 2)) % c

-- the phase by the centre a, or what stands in for it, and the rank r that is kept; where a is
-- silent none was heard
unfoldable pub phase_by : ℕ → ℕ → ℕ → ℕ
phase_by c a r = if is_heard a then tick_of c a r else silent
