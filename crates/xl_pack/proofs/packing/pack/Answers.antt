use Rattle.xl_pack.proofs.PackText.{smallest_file, pack_text}
use Rattle.xl_pack.proofs.packing.pack.Goals as goal

pub returns-clause-smallest : goal.returns-clause-smallest
returns-clause-smallest c =
    smallest_file c.args.document c.run_length_coded-document.result c.args.with_plans _ _ _ c.run_length_coded-document.ensures
    c.in_ok-spelled.ensures

pub returns-clause-text : goal.returns-clause-text
returns-clause-text c =
    pack_text c.args.document c.run_length_coded-document.result c.args.with_plans _ _ _ c.args.before c.len-after.result _
    c.run_length_coded-document.ensures c.in_ok-spelled.ensures
    c.len-after.ensures c.in_ok-text.ensures
