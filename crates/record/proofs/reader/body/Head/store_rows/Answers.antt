-- The readings of row i are stored behind them.
use Rattle.std.proofs.Common.{◌≡◌, ◌+◌, ◌-◌, ◌*◌, ◌≤◌, ◌<◌, length, take, drop, ap, ◌∙◌, arith}
use Rattle.std.proofs.Common.{length-take, length-drop}
use Rattle.std.proofs.lemmas.List.Edits.{sets}
use Rattle.lists.specs.Joined.{concat_from}
use Rattle.lists.proofs.Joined.{concat_from_more, length-concat_from}
use Rattle.lists.proofs.Stores.{stored_none, stored_more, put_mid-sets}
use Rattle.lists.proofs.Parts.{part_end}
use Rattle.record_format.specs.Layout.{body_of, field_length}
use Rattle.record_format.specs.Reading.{rows_in, columns_in, row_at, row_in, image_in}
use Rattle.record_format.proofs.Readable.{length-row_in, readable}
use Rattle.record.proofs.reader.body.Head.store_rows.Goals as goal
use Rattle.record.proofs.reader.body.Head.store_rows.Goals.{In-loop-i}

-- the row at hand ends within the bytes, and within the buffer
row-end : (c : In-loop-i) → let b = c.args.self.now.bytes.now in let i = c.loop-i.i in let n =
    c.columns-columns.result in
    (row_at b i + field_length n ≤ length b) × (i * n + n ≤ length c.loop-i.readings)
row-end c =
    let b = c.args.self.now.bytes.now in
    let k = readable b (length c.args.readings.now) c.requires in
    let h : c.loop-i.i < rows_in b = omega (arith, c.rows-i-end.ensures) in
    rw c.columns-columns.ensures (
      omega (arith, (k.rows c.loop-i.i h).field.whole),
      omega (arith, part_end c.loop-i.i (rows_in b) (columns_in b) h, k.buffer),
    )

pub loop-i-init : goal.loop-i-init
unfolding concat_from
loop-i-init c = stored_none

pub overflow_add-at : goal.overflow_add-at
overflow_add-at c =
    omega (arith, c.row_at-at.ensures, row-end (goal.at.overflow_add-at c).In-loop-i)

pub slice_bounds-store_numbers-end : goal.slice_bounds-store_numbers-end
slice_bounds-store_numbers-end c =
    omega (arith, row-end (goal.at.slice_bounds-store_numbers-end c).In-loop-i)

pub store_numbers-requires : goal.store_numbers-requires
store_numbers-requires c =
    simp (length-take, length-drop)
    (omega (arith, c.row_at-at.ensures, row-end (goal.at.store_numbers-requires c).In-loop-i))

pub loop-i-preserved : goal.loop-i-preserved
unfolding row_in
loop-i-preserved c =
    let l = c.loop-i in
    let b = c.args.self.now.bytes.now in
    let n = c.columns-columns.result in
    let start = l.i * n in
    let end = row-end (goal.at.loop-i-preserved c).In-loop-i in
    let room : length (take (start + n - start) (drop start l.readings)) ≡ columns_in b =
    simp (length-take, length-drop) (omega (arith, c.columns-columns.ensures)) in
    let at : c.row_at-at.result + 3 ≡ body_of (row_at b l.i) = omega (arith, c.row_at-at.ensures) in
    let part : c.store_numbers.new.row ≡ row_in b l.i = let e = c.store_numbers.ensures in cc in
    let next : start ≡ 0 + length (concat_from (row_in b) 0 l.i) =
    ap (λ m. l.i * m) c.columns-columns.ensures ∙ omega
    (arith, length-concat_from (row_in b) (columns_in b) 0 l.i (λ j h g. length-row_in b j)) in
    let back = put_mid-sets l.readings c.store_numbers.new.row start (start + n - start)
    (omega (arith, ap length part, length-row_in b l.i, c.columns-columns.ensures)) (omega arith) in
    rw (concat_from_more (row_in b) l.i)
    (stored_more l.invariant start (row_in b l.i) next (back ∙ ap (sets l.readings start) part))

pub returns : goal.returns
unfolding image_in
returns c =
    let l = c.loop-i in
    let e : l.i ≡ rows_in c.args.self.now.bytes.now = omega (arith, c.rows-i-end.ensures) in
    rw (← e) l.invariant.is
