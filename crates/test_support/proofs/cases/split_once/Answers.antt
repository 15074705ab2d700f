-- The place at which the search stops is the first one that has the byte, or the end.
use Rattle.std.proofs.Common.{ℕ, ◌+◌, ◌==◌, length, take, drop, sym, ap, ◌∙◌, arith, rules}
use Rattle.std.proofs.Common.{take_all}
use Rattle.std.proofs.lemmas.List.Sums.{position_or_len_is}
use Rattle.std.proofs.lemmas.List.{take_rest, drop_all}
use Rattle.test_support.proofs.cases.split_once.Goals as goal

pub returns-in-Some : goal.returns-in-Some
returns-in-Some c =
    let text = c.args.text.now in
    let found = position_or_len_is (λ (x : ℕ). x == c.args.byte) text c.in-Some.at 0 (search rules)
    (search rules) (search rules) in
    record {
      head = ap (λ n. take n text) (sym found);
      tail = take_rest text _ ∙ ap (λ n. drop (n + 1) text) (sym found);
    }

pub returns-in-None : goal.returns-in-None
returns-in-None c =
    let text = c.args.text.now in
    let none = position_or_len_is (λ (x : ℕ). x == c.args.byte) text (length text) 0 (omega arith)
    (search rules) (search rules) in
    record {
      head = sym (ap (λ n. take n text) none ∙ take_all (length text) text (omega arith));
      tail = sym (ap (λ n. drop (n + 1) text) none ∙ drop_all (length text + 1) text (omega arith));
    }
