-- How many steps a call takes at most.
use Rattle.std.proofs.Common.{◌≡◌, ℕ, ◌+◌, ◌≤◌, Bool, true, false, List, refl, sym, ap, ◌∙◌, arith, mul-le-mul_right}
use Rattle.std.specs.Prelude.{Option, Some, None}
use Rattle.spec_document.specs.Forest.{none, leaf, group, stack_at}
use Rattle.spec_document.specs.declared.TileAt.{TileAt}
use Rattle.spec_document.specs.Document.{Document, Nodes}
use Rattle.spec_cache.specs.Cache.{Cache, Place, clean_tile, next_place, with_last, after_take}
use Rattle.spec_history.specs.Machine as machine
use Rattle.spec_history.specs.Machine.{Call}
use Rattle.xl_compose.specs.Cost.{visible_with, visible_in, visible_of, spared, laid_in, laid_of, tile_points}
use Rattle.xl_compose.specs.Job.{Job, StandsFor}
use Rattle.xl_desk.specs.Needs.{tile_cost, call_cost, most_cost}

-- ---- where pictures are given, no more nodes are laid

with_less : (visible : Bool) (given : Option (List ℕ)) (laid inside : ℕ) → laid ≤ inside
    → visible_with visible (spared given laid) ≤ visible_with visible inside
with_less true None laid inside less = omega (arith, less)
with_less true (Some picture) laid inside less = omega arith
with_less false given laid inside less = omega arith

laid_less : (clean : ℕ → Option (List ℕ)) (nodes : Nodes) → laid_in clean nodes ≤ visible_in nodes
laid_less clean none = omega arith
laid_less clean (leaf id l under) = let rest = laid_less clean under in omega (arith, rest)
laid_less clean (group id g children under) =
    let first = with_less g.visible (clean id) (laid_in clean children) (visible_in children) (laid_less clean children) in
    let rest = laid_less clean under in
    omega (arith, first, rest)

laid_of_less : (clean : ℕ → Option (List ℕ)) (nodes : Option Nodes) → laid_of clean nodes ≤ visible_of nodes
laid_of_less clean None = omega arith
laid_of_less clean (Some nodes) = laid_less clean nodes

-- whatever is kept
pub cost_most : (cache : Cache) (d : Document) (call : Call) → call_cost cache d call ≤ most_cost d call
cost_most cache d (machine.tile stack at) =
    mul-le-mul_right (tile_points d at) (laid_of_less (λ id. clean_tile cache id at) (stack_at stack d.nodes))
cost_most cache d (machine.edit guard edits) = omega arith
cost_most cache d (machine.undo named) = omega arith
cost_most cache d machine.redo = omega arith
cost_most cache d (machine.peek stack at) = omega arith
cost_most cache d machine.top = omega arith

pub steps_most : (cache : Cache) (d : Document) (call : Call) (old new : ℕ) → new ≤ old + call_cost cache d call
    → new ≤ old + most_cost d call
steps_most cache d call old new is = let most = cost_most cache d call in omega (arith, is, most)

-- ---- a job

-- a slot that is taken leaves the clean pictures
cost_taken : (cache : Cache) (d : Document) (stack : ℕ) (at : TileAt)
    → tile_cost (after_take cache) d stack at ≡ tile_cost cache d stack at
cost_taken cache d stack at = go (next_place cache)
  where
    go : (o : Option Place) → tile_cost (with_last o cache) d stack at ≡ tile_cost cache d stack at
    go None = refl
    go (Some place) = refl

pub job_cost : (d : Document) (old new : Cache) (version stack : ℕ) (at : TileAt) (job : Job) → new ≡ after_take old
    → StandsFor d stack at version job → job.cost ≡ tile_cost new d stack at → job.cost ≡ tile_cost old d job.stack job.at
job_cost d old new version stack at job took stands is =
    is ∙ (ap (λ cache. tile_cost cache d stack at) took
    ∙ (cost_taken old d stack at ∙ (λ i. tile_cost old d (sym stands.stack_is i) (sym stands.at_is i))))
