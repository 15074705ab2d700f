-- The number is laid behind the word.
use Rattle.sheet_text.proofs.TextLaws.{appended_more}
use Rattle.sheet_text.proofs.append_counted.Goals as goal

pub returns : goal.returns
returns g c = appended_more c.append.ensures c.append_number.ensures
