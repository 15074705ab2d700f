-- The two words with their numbers are laid one behind the other, and a line feed.
use Rattle.std.proofs.Common.{rules, arith}
use Rattle.refusal.specs.Table.{number_of, place_of}
use Rattle.sheet_text.proofs.TextLaws.{appended_more, appended_laid}
use Rattle.std.specs.Prelude.{codes}
use Rattle.sheet_text.proofs.WordLaws.{appended_counted}
use Rattle.sheet_text.proofs.Lengths.{refusal_short}
use Rattle.sheet_text.proofs.write_refusal.Goals as goal

pub returns : goal.returns
returns c =
    let put = appended_more (appended_counted
    (codes " at ") _ c.append_counted.ensures c.append_counted-2.ensures) c.append.ensures in
    let begun = c.new-text.ensures in
    appended_laid (rw (c.number.ensures, c.place.ensures) at put) begun.untouched begun.empty
    (omega (
      arith,
      refusal_short (number_of c.args.refusal)
          (place_of c.args.refusal),
    )) c.length.ensures (search rules)
