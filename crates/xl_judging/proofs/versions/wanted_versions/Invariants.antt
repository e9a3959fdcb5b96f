use Rattle.xl_judging.proofs.Wanting.{AreWantedTo}
use Rattle.xl_judging.proofs.versions.wanted_versions.Given as goal

abbrev pub invariant-loop-word : goal.invariant-loop-word
invariant-loop-word l = AreWantedTo l.fn.calls l.fn.output.replies l.fn.output.order l.word-index l.wanted.items
