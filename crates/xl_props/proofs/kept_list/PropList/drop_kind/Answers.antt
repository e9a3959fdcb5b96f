use Rattle.std.proofs.Common.{◌∙◌, ap, rules}
use Rattle.std.proofs.lemmas.Fn.{filter_same}
use Rattle.spec_document.specs.Document.{without_kind}
use Rattle.xl_props.proofs.kept_list.PropList.drop_kind.Goals as goal

pub returns : goal.returns
returns c =
    filter_same _ _ _ (λ x b f' k. search rules) _ _ c.retain.ensures.filtered
    ∙ ap (without_kind c.args.kind) c.self.view_is
