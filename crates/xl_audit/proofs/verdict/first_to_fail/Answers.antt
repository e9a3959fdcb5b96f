use Rattle.std.proofs.Common.{◌≡◌, false, length, rules, arith, ◌∙◌, ap}
use Rattle.spec_audit.specs.Output.{Output}
use Rattle.xl_standing.proofs.Ready.{may_go_on}
use Rattle.xl_audit.proofs.AtWord.{along_first, word_counts, word_has_desk, word_finds, word_fails, word_passes, words_pass}
use Rattle.xl_audit.proofs.verdict.first_to_fail.Goals as goal

pub loop-word-init : goal.loop-word-init
loop-word-init g c = λ s b. along_first _ _ _ _ _ b

pub index_mut-desk-requires : goal.index_mut-desk-requires
index_mut-desk-requires g c =
    let full : c.loop-word.desks.len ≡ length c.loop-word.desks.items = search rules in
    omega (
      arith,
      full,
      word_has_desk (λ x. (goal.PointFilter-dyn g x).state x.1) _ _ _ _ _ c.requires.1 _ _ (record { session = 0; index = 0; end = false }) _
          c.loop-word.desks.items (c.loop-word.invariant _ c.requires.1) (c.as_slice-word-items.ensures.value ∙ ap (λ (o : Output). o.order) c.output.view_is)
          c.loop-word-test.true,
    )

pub word-requires-clause-few : goal.word-requires-clause-few
word-requires-clause-few g c =
    word_counts (λ x. (goal.PointFilter-dyn g x).state x.1) _ _ _ _ _ c.requires.1 _ _ (record { session = 0; index = 0; end = false }) _
    c.loop-word.desks.items (c.loop-word.invariant _ c.requires.1) (c.as_slice-word-items.ensures.value ∙ ap (λ (o : Output). o.order) c.output.view_is)
    c.loop-word-test.true

pub word-requires-clause-ready : goal.word-requires-clause-ready
word-requires-clause-ready g c =
    let along = c.loop-word.invariant _ c.requires.1 in
    may_go_on _ along.earlier c.loop-word.walk.standing c.loop-word.walk.made along.has.stands

pub word-requires-clause-fit : goal.word-requires-clause-fit
word-requires-clause-fit g c =
    word_finds (λ x. (goal.PointFilter-dyn g x).state x.1) _ _ _ _ _ c.requires.1 _ _ (record { session = 0; index = 0; end = false }) _
    c.loop-word.desks.items (c.loop-word.invariant _ c.requires.1) (c.as_slice-word-items.ensures.value ∙ ap (λ (o : Output). o.order) c.output.view_is)
    c.loop-word-test.true c.index_mut-desk.result.now c.index_mut-desk.ensures.value

pub returns-then-not-branch : goal.returns-then-not-branch
returns-then-not-branch g c = λ s b.
    word_fails (λ x. (goal.PointFilter-dyn g x).state x.1) _ _ _ _ _ b _ _ (record { session = 0; index = 0; end = false }) _
    c.loop-word.desks.items (c.loop-word.invariant _ b) (c.as_slice-word-items.ensures.value ∙ ap (λ (o : Output). o.order) c.output.view_is)
    c.loop-word-test.true c.index_mut-desk.result.now c.index_mut-desk.ensures.value
    c.word.new.desk _ _ c.in_ok-word.ensures.judged c.if-not-branch.true

pub loop-word-preserved : goal.loop-word-preserved
loop-word-preserved g c = λ s b.
    word_passes (λ x. (goal.PointFilter-dyn g x).state x.1) _ _ _ _ _ b _ _ (record { session = 0; index = 0; end = false }) _
    c.loop-word.desks.items (c.loop-word.invariant _ b) (c.as_slice-word-items.ensures.value ∙ ap (λ (o : Output). o.order) c.output.view_is)
    c.loop-word-test.true c.index_mut-desk.result.now c.index_mut-desk.ensures.value
    c.word.new.desk _ _ c.in_ok-word.ensures.judged c.if-not-branch.false c.in_ok-word.ensures.slots c.in_ok-word.ensures.wanted

pub returns : goal.returns
returns g c = λ s b.
    words_pass _ _ _ _ _ _ _ (c.loop-word.invariant s b)
    (c.as_slice-word-items.ensures.value ∙ ap (λ (o : Output). o.order) c.output.view_is) c.loop-word-test.false
