-- The kept pictures of a core as its document is opened.
use Rattle.std.proofs.Common.{◌≡◌, [], Some, ap, sym, subst}
use Rattle.spec_document.specs.Document.{Document}
use Rattle.spec_document.specs.Limits.{IsDocument}
use Rattle.spec_cache.specs.Cache.{no_slots}
use Rattle.spec_world.specs.Exact.{SlotsAreExact}
use Rattle.spec_world.specs.Right.{IsRight}
use Rattle.spec_world.specs.World.{stack_ids, add_stacks}
use Rattle.spec_world.proofs.Exact.{starts-exact}
use Rattle.xl_core.specs.Editing.{Editing, world}
use Rattle.xl_run.specs.Opening.{KeepsExactly}

-- a core keeps nothing as its document is opened
pub opened_keeps : {D : Type 0} (core : Editing D) (d : Document) (k : D)
    → core ≡ record {
      history = record { base = d; entries = [] };
      cache = add_stacks (stack_ids d) d 0 no_slots;
      opening = k;
      handed = [];
      shelf = Some k;
      spare = core.spare;
    } → IsDocument d → IsRight d (world core) → KeepsExactly core
opened_keeps {D} core d k is within right = record {
  within = subst (λ (c : Editing D). IsDocument c.history.base) (sym is) within;
  right = subst (λ (b : Document). IsRight b (world core)) (sym (ap (λ (c : Editing D). c.history.base) is)) right;
  exact = subst (λ (c : Editing D). SlotsAreExact c.history.base (world c)) (sym is) (starts-exact d);
}
