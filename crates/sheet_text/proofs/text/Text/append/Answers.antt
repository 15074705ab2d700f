-- The bytes that fit take the place of those that were there.
use Rattle.std.proofs.Common.{refl, arith}
use Rattle.sheet_text.proofs.TextLaws.{laid_part}
use Rattle.sheet_text.proofs.text.Text.append.Goals as goal

pub returns : goal.returns
returns c =
    let text = c.args.self.now in
    record {
      same_memory = refl;
      laid = λ fits. record {
        memory = laid_part text.memory.now text.length c.args.bytes.now _ _ _
            c.min-start.ensures c.min-fitting.ensures c.copy_from_slice.ensures.after;
        after = omega arith;
      };
    }
