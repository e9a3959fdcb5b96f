use Rattle.std.proofs.Common.{rules, codes}
use Rattle.xl_command.proofs.Given.{none_among, differ_in_bytes}
use Rattle.xl_command.proofs.reading.command_of.Goals as goal

pub returns-in_default-verb-clause-asked : goal.returns-in_default-verb-clause-asked
returns-in_default-verb-clause-asked c =
    let verb = c.in-Some.verb.now.now in
    none_among c.args.arguments.now c.in-Some.verb.now (search rules)
    (differ_in_bytes verb (codes "edit") c.in_default-verb.not-edit)
    (differ_in_bytes verb (codes "render") c.in_default-verb.not-render)
    (differ_in_bytes verb (codes "info") c.in_default-verb.not-info)
    (differ_in_bytes verb (codes "make") c.in_default-verb.not-make)
    (differ_in_bytes verb (codes "pack") c.in_default-verb.not-pack)
    (differ_in_bytes verb (codes "flatten") c.in_default-verb.not-flatten)
    (differ_in_bytes verb (codes "view") c.in_default-verb.not-view)
    (differ_in_bytes verb (codes "audit") c.in_default-verb.not-audit)
