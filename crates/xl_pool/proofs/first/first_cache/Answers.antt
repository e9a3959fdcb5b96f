use Rattle.std.proofs.Common.{sym, ◌∙◌, ap, subst}
use Rattle.spec_cache.specs.Cache.{no_slots}
use Rattle.spec_document.specs.Limits.{IsDocument}
use Rattle.spec_world.specs.World.{stack_ids}
use Rattle.xl_regions.specs.Pairs.{numbers}
use Rattle.xl_pool.proofs.InTurn.{first-coming, coming-same}
use Rattle.xl_pool.proofs.first.first_cache.Goals as goal

pub add_stacks-requires-clause-coming : goal.add_stacks-requires-clause-coming
add_stacks-requires-clause-coming c =
    coming-same (stack_ids c.args.doc.now)
    (numbers c.as_slice.result.now) c.doc.inside.width c.in_ok-pool.pool.width c.doc.inside.height c.in_ok-pool.pool.height 0
    no_slots c.in_ok-cache.cache
    (sym (ap numbers c.as_slice.ensures.value ∙ c.in_ok-stacks.ensures.value))
    (sym c.in_ok-pool.ensures.width_is) (sym c.in_ok-pool.ensures.height_is) (sym c.in_ok-cache.ensures)
    (first-coming c.args.doc.now c.doc.inside.width c.doc.inside.height 0 (subst IsDocument c.doc.view_is c.doc.invariant.limits))
