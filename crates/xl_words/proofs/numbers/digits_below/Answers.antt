use Rattle.std.proofs.Common.{sym, ◌∙◌, ◌≡◌, true, arith, get_or}
use Rattle.spec_script.specs.Words.{is_digit}
use Rattle.xl_words.proofs.Decimals.{reads_past}
use Rattle.xl_words.proofs.numbers.digits_below.Goals as goal

pub returns-then-value-limit : goal.returns-then-value-limit
returns-then-value-limit c =
    let word = c.args.word.now in
    let digit : is_digit (get_or word c.loop-b.b-index 0) ≡ true = sym c.is_ascii_digit.ensures.value
    ∙ c.if-not-is_ascii_digit.false in
    sym (reads_past c.args.limit c.loop-b.value c.loop-b.b-index word c.loop-b.invariant (omega arith) digit (omega arith))
