-- `print_record` writes the sheet of the reader's bytes.
use Rattle.std.proofs.Common.{◌≡◌, Result, Ok, Err, IfOk, IsErrAnd, MatchResult, take, subst}
use Rattle.std.proofs.Common.{le_refl}
use Rattle.std.specs.Io.KnownBytes.{Appends}
use Rattle.sheet_stdio.proofs.Whole.{short_read, text_written, text_front}
use Rattle.sheet_stdio.proofs.print_record.Goals as goal

-- what is known of a value that `map_err` and `?` let pass
passed : {T E D : Type 0} (r : Result T E) (m : Result T D) (x : T) (Q : E → D → Type 0)
    (P : T → Type 0)
    → MatchResult r (λ y. m ≡ Ok y) (λ e. IsErrAnd m (Q e)) → m ≡ Ok x → IfOk r P → P x
passed (Ok y) m x Q P cases is fact = let same : y ≡ x = cc in rw same at fact
passed (Err e) m x Q P cases is fact = absurd (rw is at cases)

pub returns-clause-written : goal.returns-clause-written
returns-clause-written g c =
    let n = c.in_ok-length.length in
    let memory = c.read_full.new.bytes in
    let count =
    passed _ _ n _ _ c.map_err.ensures.cases c.in_ok-length.was c.read_full.ensures.count in
    let read = passed _ _ n _ _ c.map_err.ensures.cases c.in_ok-length.was
    c.read_full.ensures.read in
    let end = passed _ _ n _ _ c.map_err.ensures.cases c.in_ok-length.was c.read_full.ensures.end in
    let answer = c.in_ok-map_err.field-0 in
    let call = passed _ _ answer _ _ c.map_err-2.ensures.cases c.in_ok-map_err.was
    c.print_sheet.ensures.sheet_call in
    let put = passed _ _ answer _ _ c.map_err-2.ensures.cases c.in_ok-map_err.was
    c.print_sheet.ensures.written in
    text_written 8192 8192 16384 _ _ _ _ (take n memory) read
    (short_read n memory c.read_full.auto.bytes count end)
    (subst (Appends _ _) (text_front call (le_refl _)) put)
