use Rattle.std.proofs.Common.{◌≡◌, take}
use Rattle.xl_props.proofs.kept_list.PropList.share.Given as goal

abbrev pub invariant-loop-kept : goal.invariant-loop-kept
invariant-loop-kept l = l.items.items ≡ take l.kept-index l.kept-items
