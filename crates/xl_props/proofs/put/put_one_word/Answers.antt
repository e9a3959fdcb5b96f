use Rattle.std.proofs.Common.{sym}
use Rattle.spec_fields.specs.Put.{word}
use Rattle.xl_props.proofs.Lengths.{length_word, headed, onto}
use Rattle.xl_props.proofs.put.put_one_word.Goals as goal

pub returns-clause-ok : goal.returns-clause-ok
returns-clause-ok c =
    onto c.put_word.result _ _ _
    (headed c.args.out.now.items c.put_head.new.out.items (word c.args.value) c.args.kind 4 c.in_ok-put_head.ensures.ok
    (sym (length_word c.args.value))) c.put_word.ensures.ok
