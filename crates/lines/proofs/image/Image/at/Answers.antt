-- The row and the column that the two positions stand for give the padded reading.
use Rattle.lines.proofs.Padding.{padded-reads}
use Rattle.lines.proofs.image.Image.at.Goals as goal

pub returns : goal.returns
returns c =
    rw c.row-row.ensures (padded-reads _ _ _ c.row_at.ensures.place _ c.column_at.ensures.place
    c.column_at.ensures.within)
