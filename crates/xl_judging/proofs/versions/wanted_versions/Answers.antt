use Rattle.std.proofs.Common.{◌≡◌, ◌∙◌, ap}
use Rattle.spec_audit.specs.Output.{Output}
use Rattle.xl_judging.proofs.Wanting.{wanted_on}
use Rattle.xl_judging.proofs.versions.wanted_versions.Goals as goal

pub loop-word-preserved : goal.loop-word-preserved
loop-word-preserved c =
    let order : c.as_slice-word-items.result.now ≡ c.args.output.now.order =
    c.as_slice-word-items.ensures.value ∙ ap (λ (o : Output). o.order) c.output.view_is in
    wanted_on c.args.calls.now c.args.output.now.replies c.args.output.now.order c.as_slice-word-items.result.now c.loop-word.word-index _
    c.loop-word.wanted.items c.want_of_word.new.wanted.items order c.loop-word.invariant c.loop-word-test.true
    c.in_ok-want_of_word.ensures.others c.in_ok-want_of_word.ensures.this
