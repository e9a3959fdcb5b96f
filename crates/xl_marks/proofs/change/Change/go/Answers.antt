use Rattle.std.proofs.Common.{sym, ◌∙◌, ap, subst}
use Rattle.xl_regions.specs.Pairs.{numbers}
use Rattle.spec_standing.specs.Change.{marked_by, without_stacks}
use Rattle.xl_pool.specs.Steps.{AreGoing}
use Rattle.xl_pool.proofs.InTurn.{path-going, path-coming, coming-same}
use Rattle.xl_marks.proofs.change.Change.go.Goals as goal

pub drop_stacks-requires-clause-going : goal.drop_stacks-requires-clause-going
drop_stacks-requires-clause-going c =
    subst (λ ss. AreGoing ss c.args.cache.now) (sym (ap numbers c.as_slice.ensures.value ∙ ap (λ x. x.went) c.self.view_is))
    (path-going c.requires.leads.0 c.requires.leads.1 c.args.self.now c.args.cache.now c.requires.leads.2)

pub add_stacks-requires-clause-coming : goal.add_stacks-requires-clause-coming
add_stacks-requires-clause-coming c =
    coming-same c.args.self.now.came
    (numbers c.as_slice-2.result.now) c.args.self.now.width c.drop_stacks.new.pool.width c.args.self.now.height
    c.drop_stacks.new.pool.height c.args.version
    (marked_by c.args.self.now.damage c.args.version (without_stacks c.args.self.now.went c.args.cache.now)) c.mark.new.cache
    (sym (ap numbers c.as_slice-2.ensures.value ∙ ap (λ x. x.came) c.self.view_is))
    (sym (ap (λ p. p.width) c.drop_stacks.ensures.pool ∙ ap (λ x. x.width) c.self.view_is))
    (sym (ap (λ p. p.height) c.drop_stacks.ensures.pool ∙ ap (λ x. x.height) c.self.view_is))
    (sym (c.mark.ensures
    ∙ (ap (λ k. marked_by c.self.inside.damage c.args.version k) (c.drop_stacks.ensures.cache
    ∙ ap (λ ss. without_stacks ss c.args.cache.now) (ap numbers c.as_slice.ensures.value ∙ ap (λ x. x.went) c.self.view_is))
    ∙ ap (λ ps. marked_by ps c.args.version (without_stacks c.args.self.now.went c.args.cache.now))
    (ap (λ x. x.damage) c.self.view_is))))
    (path-coming c.requires.leads.0 c.requires.leads.1 c.args.self.now c.args.cache.now c.args.version c.requires.leads.2)
