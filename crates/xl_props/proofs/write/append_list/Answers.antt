use Rattle.std.proofs.Common.{[], ◌++◌, ◌∙◌, ap}
use Rattle.std.proofs.lemmas.Result.{on_ok_weaker}
use Rattle.spec_props.specs.Layout.{property as raw, list_bytes}
use Rattle.xl_props.proofs.Lengths.{joined, ended}
use Rattle.xl_props.proofs.write.append_list.Goals as goal

pub returns-clause-ok : goal.returns-clause-ok
returns-clause-ok c =
    let values = joined c.args.out.now.items c.put_image.new.out.items c.put_layer.new.out.items _ _ c.in_ok-put_image.ensures.ok
    (joined c.put_image.new.out.items c.put_mark.new.out.items c.put_layer.new.out.items _ _ c.in_ok-put_mark.ensures.ok
    c.in_ok-put_layer.ensures.ok) in
    let kept = c.in_ok-put_kept.ensures.ok ∙ ap (λ ks. c.put_layer.new.out.items ++ list_bytes ks) c.as_slice.ensures in
    on_ok_weaker c.put.result
    (λ end. joined c.args.out.now.items c.put_layer.new.out.items c.put.new.out.items _ _ values
    (joined c.put_layer.new.out.items c.put_kept.new.out.items c.put.new.out.items _ _ kept
    (ended c.put_kept.new.out.items c.put.new.out.items (raw 0 []) end))) c.put.ensures.ok
