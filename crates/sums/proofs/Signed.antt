-- Numbers below 2 ^ 31 compare alike, whether they are taken as signed or not.
use Rattle.std.proofs.Common.{◌≡◌, ℕ, ◌^◌, ◌<◌, ltb, w32, to_z}
use lib.Signed.{lt_z}
use mir.Facts.{to_z_pos}

-- less as signed numbers of 32 bits is less
pub signed_less : (a b : ℕ) → a < 2 ^ 31 → b < 2 ^ 31 → lt_z (to_z w32 a) (to_z w32 b) ≡ ltb a b
signed_less a b h g = rw (to_z_pos w32 {n = a} h, to_z_pos w32 {n = b} g)
