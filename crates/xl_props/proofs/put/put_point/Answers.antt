use Rattle.std.proofs.Common.{◌≡◌, ◌++◌, length, ap, ◌∙◌, arith, length-append}
use Rattle.std.specs.Int.{w32, cast_unsigned}
use Rattle.std.proofs.lemmas.Int.{to_z-of_z}
use Rattle.spec_fields.specs.Put.{word}
use Rattle.xl_props.specs.Written.{offset_words}
use Rattle.xl_props.proofs.Lengths.{length_word, headed_parts, onto}
use Rattle.xl_props.proofs.put.put_point.Goals as goal

pub returns-clause-ok : goal.returns-clause-ok
unfolding offset_words
returns-clause-ok c =
    let head = c.put_head.new.out.items in
    let first = c.put_word.new.out.items in
    let m = cast_unsigned w32 c.args.x in
    let n = cast_unsigned w32 c.args.y in
    let x : c.cast_unsigned.result ≡ m = c.cast_unsigned.ensures ∙ ap (cast_unsigned w32) (to_z-of_z w32 c.args.x c.ranges.x) in
    let y : c.cast_unsigned-2.result ≡ n = c.cast_unsigned-2.ensures ∙ ap (cast_unsigned w32) (to_z-of_z w32 c.args.y c.ranges.y) in
    let long : 8 ≡ length (word m ++ word n) = omega (arith, length-append (word m) (word n), length_word m, length_word n) in
    onto c.put_word-2.result _ _ _
    (ap (λ k. first ++ word k) y
    ∙ headed_parts c.args.out.now.items head first (word m) (word n) 15 8 c.in_ok-put_head.ensures.ok (c.in_ok-put_word.ensures.ok
    ∙ ap (λ k. head ++ word k) x) long) c.put_word-2.ensures.ok
