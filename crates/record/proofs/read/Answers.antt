-- A record that has passed its tests is stored at the front of the buffer.
use Rattle.std.proofs.Common.{sym, ◌∙◌}
use Rattle.refusal.proofs.Outcome.{after-accepted}
use Rattle.record.proofs.read.Goals as goal

pub returns : goal.returns
returns c =
    let done = c.in_ok-parsed.ensures in
    let accepts = after-accepted _ _ (sym done.answer) in
    record {
      answer = done.answer;
      memory = rw done.bytes_kept at c.store.ensures ∙ sym accepts;
    }
