use Rattle.std.proofs.Common.{◌^◌, sym, ◌∙◌, ◌≡◌, true, arith, get_or}
use Rattle.spec_script.specs.Words.{is_digit}
use Rattle.xl_words.proofs.Decimals.{reads_past}
use Rattle.xl_printed.proofs.causes.digits.Goals as goal

pub returns-then-value-ge-AREA_LIMIT : goal.returns-then-value-ge-AREA_LIMIT
returns-then-value-ge-AREA_LIMIT c =
    let word = c.args.word.now in
    let digit : is_digit (get_or word c.loop-b.b-index 0) ≡ true = sym c.is_ascii_digit.ensures.value
    ∙ c.if-not-is_ascii_digit.false in
    sym (reads_past (2 ^ 64) c.loop-b.value c.loop-b.b-index word c.loop-b.invariant (omega arith) digit (omega arith))
