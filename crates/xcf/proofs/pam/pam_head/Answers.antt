use Rattle.std.proofs.Common.{◌∙◌}
use Rattle.xcf.proofs.Heads.{head_is}
use Rattle.xcf.proofs.pam.pam_head.Goals as goal

pub returns : goal.returns
returns c =
    head_is _ _ _ _ _ _ _ _ c.args.width c.args.height c.new-text.ensures.bytes c.in_ok-push_str.ensures.bytes
    (c.as_str.ensures.value ∙ c.in_ok-to_string.ensures.ok) c.in_ok-push_str-2.ensures.bytes
    c.in_ok-push_str-3.ensures.bytes (c.as_str-2.ensures.value
    ∙ c.in_ok-to_string-2.ensures.ok) c.in_ok-push_str-4.ensures.bytes c.in_ok-push_str-5.ensures.bytes
