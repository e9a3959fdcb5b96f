use Rattle.std.proofs.Common.{◌*◌, length, arith}
use Rattle.spec_props.specs.Layout.{path_bytes as words}
use Rattle.xl_props.proofs.Lengths.{length_words, headed, onto}
use Rattle.xl_props.proofs.put.put_places.Goals as goal

pub returns-clause-ok : goal.returns-clause-ok
returns-clause-ok c =
    let places = c.args.places.now in
    onto c.put_words.result _ _ _
    (headed c.args.out.now.items c.put_head.new.out.items (words places) 30 (4 * length places) c.in_ok-put_head.ensures.ok
    (omega (arith, length_words places))) c.put_words.ensures.ok
