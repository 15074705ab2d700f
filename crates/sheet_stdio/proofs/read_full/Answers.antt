-- `read_full` keeps what it read at the front, and a failed read takes nothing from the reader.
use Rattle.std.proofs.Common.{◌≡◌, ℕ, ◌+◌, ◌-◌, ◌≤◌, List, ◌++◌, length, take, ap, sym, subst, ◌∙◌}
use Rattle.std.proofs.Common.{rules, le_refl, length-take-le}
use Rattle.std.proofs.Math.Seq.{take-append-add}
use Rattle.std.proofs.lemmas.List.{take-append-le}
use Rattle.std.proofs.lemmas.Slice.{take-put_mid_below}
use Rattle.std.specs.Io.KnownBytes.{Consumes}
use Rattle.std.proofs.KnownBytes.{Consumes-trans, Consumes-kept}
use borrow.Rule.Slice.PartMut.{put_mid}
use Rattle.sheet_stdio.proofs.read_full.Goals as goal
use Rattle.sheet_stdio.proofs.read_full.Goals.{in-Ok, in-Err+else-ne}

-- what was read into the part behind the first a bytes follows them
take-put_mid_part : (a k n : ℕ) (xs ys : List ℕ) → a ≤ length xs → n ≤ length ys
    → take (a + n) (put_mid a k xs ys) ≡ take a xs ++ take n ys
take-put_mid_part a k n xs ys within fits =
    ap (λ m. take (m + n) (put_mid a k xs ys)) (sym (length-take-le a xs within))
    ∙ take-append-add (take a xs) _ n
    ∙ ap (λ l. take a xs ++ l) (take-append-le n ys _ fits)

pub loop-preserved : goal.loop-preserved
loop-preserved g c =
    let before = c.loop.invariant in
    elim c.match-read.branch [
      | in-Ok w ↦
          let fits = w.in-Ok.ensures.bound.0 in
          let part = take-put_mid_part c.loop.count (length c.loop.bytes - c.loop.count) w.in-Ok.n
          c.loop.bytes c.read.new.buf before.0 fits in
          rw w.count-is (
            search rules,
            subst (Consumes _ _) (sym part)
                (Consumes-trans _ _ _ _ _ before.1 w.in-Ok.ensures.bytes.0),
          )
      | in-Err+else-ne w ↦
          let same = take-put_mid_below c.loop.count (length c.loop.bytes - c.loop.count)
          c.loop.bytes c.read.new.buf c.loop.count (le_refl _) before.0 in
          rw w.count-is (
            search rules,
            subst (Consumes _ _) (sym same)
                (Consumes-kept _ _ _ _ before.1 w.in-Err.ensures.bytes),
          )
    ]
