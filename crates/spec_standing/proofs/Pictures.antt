-- The pictures that are kept stay right by jobs that are taken and by pictures that are handed in.
use Rattle.std.proofs.Common.{◌≡◌, ℕ, ◌≤◌, true, false, List, [], ◌∷◌, ◌++◌, refl, sym, ◌∙◌, ap, subst}
use Rattle.std.specs.Prelude.{Option, Some, None, IfSome}
use Rattle.std.specs.List.{AllByRecursion}
use Rattle.spec_document.specs.declared.TileAt.{TileAt}
use Rattle.spec_document.specs.Grid.{is_on_grid}
use Rattle.spec_document.specs.Document.{Document}
use Rattle.spec_document.specs.Picture.{project}
use Rattle.spec_cache.specs.Cache.{Cache, Place, next_place, after_take, install}
use Rattle.spec_history.specs.Machine.{State, latest, document_at, has_stack}
use Rattle.spec_history.specs.History.{Entry, replay, IsStep, is_changed}
use Rattle.spec_history.specs.Limited.{AsksCall}
use Rattle.spec_history.specs.Kept.{PeekMeetsKept, shown_version}
use Rattle.spec_history.proofs.Canvas.{canvas-document}
use Rattle.spec_history.proofs.Growing.{replay-snoc}
use Rattle.spec_world.specs.World.{World, Job, document_now}
use Rattle.spec_world.specs.Events.{add_job}
use Rattle.spec_world.specs.Right.{IsJob, IsRight}
use Rattle.spec_world.specs.Standing.{IsStanding}
use Rattle.spec_world.proofs.AllRight.{always-sound, right}
use Rattle.spec_world.proofs.Entered.{enters}
use Rattle.spec_world.proofs.Filled.{standing-finish}
use Rattle.spec_world.proofs.Standing.{standing-entry}
use Rattle.spec_world.proofs.Taken.{standing-take}
use Rattle.spec_standing.specs.Now.{Now, IsTileOf, with_cache, world_of, Stands}

-- what stands, with other pictures that are right
pub stands-with : (base : Document) (entries : List Entry) (now : Now) (made : List ℕ) (cache : Cache)
    → Stands base entries now made → IsStanding base (world_of base entries cache)
    → Stands base entries (with_cache now cache) made
stands-with base entries now made cache stands pictures = record {
  within = stands.within;
  small = stands.small;
  legal = stands.legal;
  few = stands.few;
  is_now = ap (λ n. with_cache n cache) stands.is_now;
  groups = stands.groups;
  indices = stands.indices;
  pictures = pictures;
}

-- and what stands is right
pub is_right : (base : Document) (entries : List Entry) (now : Now) (made : List ℕ) → Stands base entries now made
    → IsRight base (world_of base entries now.cache)
is_right base entries now made stands = right base (world_of base entries now.cache) stands.within stands.pictures

-- an entry that makes no version and shows no tile
pub pictures-entry : (base : Document) (entries : List Entry) (now : Now) (made : List ℕ) (e : Entry) → Stands base entries now made
    → AsksCall e.kind → IsStep base (replay base entries) entries e
    → PeekMeetsKept base entries e.kind e.reply → is_changed e.reply ≡ false
    → ((stack : ℕ) (at : TileAt) → shown_version e.kind e.reply stack at ≡ None)
    → IsStanding base (world_of base (entries ++ e ∷ []) now.cache)
pictures-entry base entries now made e stands asks step peek unchanged silent =
    subst (IsStanding base) (λ i. record {
      entries = entries ++ e ∷ [];
      state = sym (replay-snoc base entries e) i;
      cache =
          now.cache;
      jobs = [];
    })
    (standing-entry base (world_of base entries now.cache) e stands.pictures
    (enters base entries e (replay base entries) stands.legal refl asks step peek) unchanged silent)

-- ---- jobs

pub stands-taken : (base : Document) (entries : List Entry) (now : Now) (made : List ℕ) → Stands base entries now made
    → Stands base entries (with_cache now (after_take now.cache)) made
stands-taken base entries now made stands =
    let t = standing-take base (world_of base entries now.cache) stands.pictures in
    stands-with base entries now made (after_take now.cache) stands (record {
      legal = t.legal;
      replayed = t.replayed;
      slots = t.slots;
      stacks = t.stacks;
      seen = t.seen;
      each = t.each;
      jobs = tt;
    })

-- the tile that is taken next is there
pub next-there : (base : Document) (entries : List Entry) (now : Now) (made : List ℕ) → Stands base entries now made
    → IfSome (next_place now.cache) (IsTileOf now.document)
next-there base entries now made stands =
    let document : now.document ≡ document_now base s = ap (λ n. n.document) stands.is_now in
    subst (λ d. IfSome (next_place now.cache) (IsTileOf d)) (sym document)
    (go (next_place now.cache) (standing-take base (world_of base entries now.cache) stands.pictures).jobs)
  where
    s : State
    s = replay base entries

    go : (o : Option Place) → AllByRecursion (IsJob base s) (add_job o (latest s) []) → IfSome o (IsTileOf (document_now base s))
    go None all = tt
    go (Some p) all =
        let c = canvas-document base entries (latest s) in
        record { has = all.0.has; on_grid = (λ i. is_on_grid (c.width i) (c.height i) p.at) ∙ all.0.on_grid }

-- a picture that is right is handed in
pub stands-finished : (base : Document) (entries : List Entry) (now : Now) (made : List ℕ) (place : Place) (version : ℕ)
    (picture : List ℕ) → Stands base entries now made
    → version ≤ latest (replay base entries) → has_stack (document_at base (replay base entries) version) place.stack ≡ true
    → is_on_grid base.width base.height place.at ≡ true
    → picture ≡ project (document_at base (replay base entries) version) place.stack place.at
    → Stands base entries (with_cache now (install place version picture now.cache)) made
stands-finished base entries now made place version picture stands there has on is =
    let job : Job = record { stack = place.stack; at = place.at; version = version } in
    let w : World = record { entries = entries; state = replay base entries; cache = now.cache; jobs = job ∷ [] } in
    let p = stands.pictures in
    let before : IsStanding base w = record {
      legal = p.legal;
      replayed = p.replayed;
      slots = p.slots;
      stacks = p.stacks;
      seen = p.seen;
      each = p.each;
      jobs = (record { version = there; has = has; on_grid = on }, tt);
    } in
    let after = standing-finish base w 0 before (always-sound base stands.within entries) in
    stands-with base entries now made (install place version picture now.cache) stands
    (subst (λ bytes. IsStanding base (world_of base entries (install place version bytes now.cache))) (sym is) after)
