-- The two bytes at the offset become those of the number.
use Rattle.std.proofs.Common.{◌≡◌, ℕ, [], ◌∷◌, ap, ap₂, ◌∙◌, arith}
use Rattle.std.proofs.lemmas.List.Edits.{sets}
use Rattle.lists.proofs.Stores.{put_mid-sets}
use Rattle.record_format.specs.Fields.{number}
use Rattle.record_format.proofs.put_number.Goals as goal

pub returns : goal.returns
unfolding number
returns c =
    let a = c.args in
    let part : c.copy_from_slice.new.self ≡ number a.x =
    c.copy_from_slice.ensures.after ∙ c.to_be_bytes.ensures
    ∙ ap₂ (λ (high low : ℕ). high ∷ low ∷ []) (omega arith) (omega arith) in
    put_mid-sets a.bytes.now c.copy_from_slice.new.self a.at _ (omega
    (arith, c.copy_from_slice.ensures.len)) (omega arith) ∙ ap (sets a.bytes.now a.at) part
