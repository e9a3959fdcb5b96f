use Rattle.std.proofs.Common.{◌++◌, ap, ◌∙◌}
use Rattle.std.proofs.lemmas.Result.{on_ok_weaker}
use Rattle.spec_document.specs.Document.{Document}
use Rattle.xl_props.specs.Written.{written}
use Rattle.xl_write.proofs.HeadMade.{image_made}
use Rattle.xl_write.proofs.head.put_image_list.Goals as goal

pub returns : goal.returns
returns c =
    let d : Document = c.args.doc.now in
    on_ok_weaker c.write_props.result
    (λ last. image_made c.args.out.now.items c.write_props.new.out.items d c.in_ok-known.known c.in_ok-known.ensures
    (last ∙ ap (λ (x : Document). c.args.out.now.items ++ written c.in_ok-known.known x.kept) c.doc.view_is))
    c.write_props.ensures.ok
