-- A loop over damage: what is left of it leads to the same cache.
use Rattle.std.proofs.Common.{◌≡◌, ℕ, ◌+◌, ◌<◌, List, length, drop, get_or, sym, ◌∙◌, ap}
use Rattle.std.proofs.lemmas.List.{drop_more}
use Rattle.spec_document.specs.declared.Rect.{Rect}
use Rattle.spec_cache.specs.Cache.{Cache, mark}
use Rattle.xl_tree.specs.declared.naming.NodeId.{NodeId}
use Rattle.xl_regions.specs.Pairs.{pairs_of}
use Rattle.spec_standing.specs.Change.{marked_by}

pub marked-next : (damage : List (NodeId × Rect)) (i version : ℕ) (first cache : Cache) (d : NodeId × Rect) → i < length damage
    → marked_by (pairs_of (drop i damage)) version cache ≡ marked_by (pairs_of damage) version first
    → marked_by (pairs_of (drop (i + 1) damage)) version (mark (get_or damage i d).0.0 (get_or damage i d).1 version cache)
    ≡ marked_by (pairs_of damage) version first
marked-next damage i version first cache d within left =
    ap (λ xs. marked_by (pairs_of xs) version cache) (sym (drop_more damage i d within)) ∙ left

-- ---- those that come
