-- A record's length is a value of 64 bits.
use Rattle.std.proofs.Common.{◌≡◌, ◌<◌, ◌^◌, ℕ, List, sym, arith}
use Rattle.refusal.specs.Outcome.Outcome.{accepted}
use Rattle.refusal.proofs.Outcome.{accepted_clear, accepted_value}
use Rattle.shape.specs.declared.Shape.{Shape}
use Rattle.record_format.specs.Record.{record_length, write_rules, write_due}
use Rattle.record_format.proofs.Writable.{writable, record_length_fits}
use Rattle.circle_median.proofs.circle_median_write.Goals as goal

-- an accepted length is below 2 ^ 63
length_fits : (s : Shape) (readings : List ℕ) (room : ℕ) {n : ℕ}
    → accepted n ≡ write_due s readings room → n < 2 ^ 63
unfolding write_due
length_fits s readings room {n} answer-is =
    let clear = accepted_clear (record_length s) (write_rules s readings room) n (sym answer-is) in
    omega (
      arith,
      accepted_value (record_length s) (write_rules s readings room) n (sym answer-is),
      record_length_fits (writable s readings room clear).shape,
    )

pub map-requires : goal.map-requires
map-requires c = λ x e. length_fits _ _ _ (rw e at c.write.ensures.answer)
