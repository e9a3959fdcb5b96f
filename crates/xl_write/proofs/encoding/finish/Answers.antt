use Rattle.std.proofs.Common.{◌≡◌, ◌∙◌, ◌-◌, ◌*◌, ◌++◌, ap, drop, length, List, ℕ, arith}
use Rattle.std.proofs.lemmas.Result.{IfOk-weaker}
use Rattle.xl_write.proofs.Whole.{front_set}
use Rattle.xl_write.proofs.encoding.finish.Goals as goal

pub returns : goal.returns
returns c =
    let front : List ℕ = c.args.front.now in
    let begins : List ℕ = c.args.unfinished.begins.items in
    let count : c.len.result ≡ length begins = omega (arith, c.len.ensures, c.args.unfinished.begins.ok.0) in
    let set = front_set front c.set_words.new.out begins (length front - 4 * c.len.result) (ap (λ n. length front - 4 * n) count)
    c.requires (rw c.as_slice.ensures.value at c.set_words.ensures) in
    IfOk-weaker c.with_front.result _ _ (λ file is. is
    ∙ (λ i. set i ++ drop (c.set_words.auto.out i) c.args.unfinished.bytes)) c.with_front.ensures
