use Rattle.std.proofs.Common.{◌≡◌, ◌++◌, ap, ◌∙◌, subst}
use Rattle.std.proofs.lemmas.Result.{on_ok_weaker}
use Rattle.std.specs.Prelude.{OnOk}
use Rattle.spec_document.specs.Document.{Channel}
use Rattle.spec_fields.specs.Put.{word, text}
use Rattle.spec_layout.specs.Layout.{sheet_front}
use Rattle.xl_props.specs.declared.answer.Known.{Known}
use Rattle.xl_props.specs.Written.{written}
use Rattle.xl_write.proofs.Made.{front_made}
use Rattle.xl_write.proofs.sheet.put_front.Goals as goal

pub returns : goal.returns
returns c =
    let s : Channel = record { name = c.channel.inside.name; kept = c.channel.inside.kept; plane = c.channel.inside.plane } in
    let before = c.args.out.now.items in
    let after = c.write_props.new.out.items in
    subst (λ (s : Channel). OnOk c.write_props.result (after ≡ before ++ sheet_front c.args.is_selection s)) c.channel.view_is
    (on_ok_weaker c.write_props.result
    (λ e. front_made c.args.out.now.items c.put_u32.new.out.items c.put_u32-2.new.out.items c.put_string.new.out.items
    c.write_props.new.out.items c.args.is_selection s
    (c.in_ok-put_u32.ensures.ok ∙ ap (λ n. c.args.out.now.items ++ word n) c.width.ensures.value)
    (c.in_ok-put_u32-2.ensures.ok ∙ ap (λ n. c.put_u32.new.out.items ++ word n) c.height.ensures.value)
    (c.in_ok-put_string.ensures.ok ∙ ap (λ name. c.put_u32-2.new.out.items ++ text name) c.as_slice.ensures)
    (e ∙ ap (λ (k : Known). c.put_string.new.out.items ++ written k c.channel.inside.kept) c.known_of_channel.ensures))
    c.write_props.ensures.ok)
