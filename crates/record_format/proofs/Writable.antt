-- What clear tests say of the writer's arguments, and how long a record is.
use Rattle.std.proofs.Common.{ℕ, ◌≤◌, ◌≡◌, List, arith, mul-le-mul, ltb-false, eqb-true, length}
use borrow.Author.Tests.{not-false}
use Rattle.lists.specs.First.{first_bad}
use Rattle.refusal.specs.Limits.{longest_cycle, most_columns}
use Rattle.refusal.specs.Outcome.{IsClear}
use Rattle.refusal.proofs.Outcome.{clear_split}
use Rattle.cycle.specs.Silence.{is_reading}
use Rattle.shape.specs.declared.Shape.{Shape}
use Rattle.shape.specs.Rules.{shape_rules, area}
use Rattle.shape.proofs.Accepted.{Accepted, shape_clear}
use Rattle.record_format.specs.Layout.{field_length}
use Rattle.record_format.specs.Record.{record_length, call_rules, write_rules}

-- what the tests of the writer say when they are clear
pub record Writable (s : Shape) (readings : List ℕ) (room : ℕ) : Type 0 where
  pub tests : IsClear (shape_rules longest_cycle s)
  pub shape : Accepted longest_cycle s
  pub input : length readings ≡ area s
  pub bytes : record_length s ≤ room
  pub good : length readings ≤ first_bad (is_reading s.cycle) readings

-- no record is longer than 16,780,310 bytes
pub record_length_fits : {limit : ℕ} {s : Shape} → Accepted limit s → record_length s ≤ 16780310
unfolding record_length
record_length_fits {limit} {s} a =
    let w : field_length s.columns ≤ field_length most_columns = omega (arith, a.columns_fit) in
    omega (arith, mul-le-mul a.rows_fit w)

-- clear tests say so
pub writable : (s : Shape) (readings : List ℕ) (room : ℕ) → IsClear (write_rules s readings room)
    → Writable s readings room
writable s readings room k =
    let parts = clear_split (shape_rules longest_cycle s) (call_rules s readings room) k in
    let rest = parts.1 in
    record {
      tests = parts.0;
      shape = shape_clear longest_cycle s parts.0;
      input = eqb-true (length readings) (area s) (not-false _ rest.0);
      bytes = ltb-false room (record_length s) rest.1.0;
      good = ltb-false (first_bad (is_reading s.cycle) readings) (length readings) rest.1.1.0;
    }
