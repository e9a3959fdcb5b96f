use Rattle.std.proofs.Common.{◌∙◌, ap}
use Rattle.serde_json.specs.Data.{string}
use Rattle.xl_listing.proofs.Texts.{text_is, text_is_none}
use Rattle.xl_listing.proofs.labels.text_value.Goals as goal

pub returns-in_ok-from_str-in-Ok : goal.returns-in_ok-from_str-in-Ok
returns-in_ok-from_str-in-Ok c =
    let cases = c.in-Ok.ensures.cases in
    c.from.ensures
    ∙ (ap string c.in_ok-from_str-in-Ok.ensures.ok
    ∙ (ap string cases.0 ∙ text_is c.args.bytes.now cases.1))

pub returns-in-Err : goal.returns-in-Err
returns-in-Err c = c.default.ensures ∙ text_is_none c.args.bytes.now c.in-Err.ensures.cases.0
