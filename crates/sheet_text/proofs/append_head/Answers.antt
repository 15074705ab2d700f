-- Five words, each with its number, are laid one behind the other, and a line feed.
use Rattle.std.specs.Prelude.{codes}
use Rattle.sheet_text.proofs.TextLaws.{appended_more}
use Rattle.sheet_text.proofs.WordLaws.{appended_counted}
use Rattle.sheet_text.proofs.append_head.Goals as goal

pub returns : goal.returns
returns c =
    let rows = appended_counted
    (codes " rows ") _ c.append_counted.ensures c.append_counted-2.ensures in
    let columns = appended_counted (codes " columns ") _ rows c.append_counted-3.ensures in
    let mask = appended_counted (codes " mask ") _ columns c.append_counted-4.ensures in
    appended_more (appended_counted (codes " ") _ mask c.append_counted-5.ensures) c.append.ensures
