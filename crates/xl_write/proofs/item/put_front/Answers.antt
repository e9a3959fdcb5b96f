use Rattle.std.proofs.Common.{◌++◌, ap, ◌∙◌}
use Rattle.std.proofs.lemmas.Result.{on_ok_weaker}
use Rattle.spec_fields.specs.Put.{word, text}
use Rattle.xl_props.specs.Written.{written}
use Rattle.xl_write.proofs.ItemMade.{fields_made}
use Rattle.xl_write.proofs.item.put_front.Goals as goal

pub returns : goal.returns
returns c =
    on_ok_weaker c.write_props.result
    (fields_made c.args.out.now.items c.put_u32.new.out.items c.put_u32-2.new.out.items c.put_u32-3.new.out.items
    c.put_string.new.out.items c.write_props.new.out.items c.args.name.now (written c.args.known.now c.args.kept.now)
    c.args.plane.now.width c.args.plane.now.height c.args.kind
    (c.in_ok-put_u32.ensures.ok ∙ ap (λ n. c.args.out.now.items ++ word n) c.width.ensures.value)
    (c.in_ok-put_u32-2.ensures.ok ∙ ap (λ n. c.put_u32.new.out.items ++ word n) c.height.ensures.value)
    c.in_ok-put_u32-3.ensures.ok
    (c.in_ok-put_string.ensures.ok ∙ ap (λ name. c.put_u32-3.new.out.items ++ text name) c.as_slice.ensures))
    c.write_props.ensures.ok
