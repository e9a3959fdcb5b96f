use Rattle.std.proofs.Common.{◌+◌, ◌*◌, length, sym}
use Rattle.spec_fields.specs.Put.{word}
use Rattle.spec_props.specs.Layout.{all_colours}
use Rattle.xl_props.proofs.Lengths.{length_colours, headed_parts, onto}
use Rattle.xl_props.proofs.put.put_map.Goals as goal

pub returns-clause-ok : goal.returns-clause-ok
returns-clause-ok c =
    let colours = c.args.colours.now in
    let n = length colours in
    onto c.put_bytes_of_each.result _ _ _
    (headed_parts c.args.out.now.items c.put_head.new.out.items c.put_word.new.out.items (word n) (all_colours colours) 1
    (4 + 3 * n) c.in_ok-put_head.ensures.ok c.in_ok-put_word.ensures.ok
    (sym (length_colours colours c.requires.1))) c.put_bytes_of_each.ensures.ok
