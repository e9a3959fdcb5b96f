-- Loops over stacks that go, and stacks that come: what is left of them leads to the same cache.
use Rattle.std.proofs.Common.{◌≡◌, ℕ, ◌+◌, ◌-◌, ◌<◌, false, List, ◌∷◌, length, drop, get_or, sym, ◌∙◌}
use Rattle.std.proofs.Common.{ap, subst, arith}
use Rattle.std.specs.Prelude.{Some}
use Rattle.std.proofs.lemmas.List.{drop_more}
use Rattle.spec_cache.specs.Slots.{Slots, AreOfCanvas}
use Rattle.spec_cache.specs.Cache.{Cache, IsCache, slots_of, has_slots, drop_stack}
use Rattle.spec_cache.proofs.Found.{canvas-found}
use Rattle.spec_cache.proofs.Order.{is_cache-filter}
use Rattle.xl_tree.specs.declared.naming.NodeId.{NodeId}
use Rattle.xl_regions.specs.Pairs.{numbers}
use Rattle.spec_standing.specs.Change.{without_stacks, with_stacks}
use Rattle.xl_pool.specs.Pool.{Pool}
use Rattle.xl_pool.specs.Steps.{AreGoing, AreComing}
use Rattle.spec_cache.specs.declared.TheConstants.{MAX_STACKS}

-- ---- those that go

-- the first i stacks have gone
pub record HaveGone (stacks : List NodeId) (i : ℕ) (first : Cache) (start : Pool) (cache : Cache) (pool : Pool) : Type 0 where
  pub left : without_stacks (numbers (drop i stacks)) cache ≡ without_stacks (numbers stacks) first
  pub going : AreGoing (numbers (drop i stacks)) cache
  pub canvas : IsCache start.width start.height cache
  pub pool_is : pool ≡ record start { count = start.count + i }

pub gone-next : (stacks : List NodeId) (i : ℕ) (first : Cache) (start : Pool) (cache : Cache) (pool : Pool) (d : NodeId)
    → i < length stacks
    → HaveGone stacks i first start cache pool
    → HaveGone stacks (i + 1) first start (drop_stack (get_or stacks i d).0 cache) (record pool { count = pool.count + 1 })
gone-next stacks i first start cache pool d within have =
    let here : AreGoing (numbers (get_or stacks i d ∷ drop (i + 1) stacks)) cache =
    subst (λ xs. AreGoing (numbers xs) cache) (drop_more stacks i d within) have.going in
    record {
      left = ap (λ xs. without_stacks (numbers xs) cache) (sym (drop_more stacks i d within)) ∙ have.left;
      going = here.1;
      canvas = is_cache-filter start.width start.height _ cache have.canvas;
      pool_is = ap {A = Pool} (λ p. record p { count = p.count + 1 }) have.pool_is
          ∙ ap (λ n. record start { count = n }) (let e : start.count + i + 1 ≡ start.count + (i + 1) = omega arith in e);
    }

-- slots that are handed out are for the canvas
pub slots-sides : (width height : ℕ) (cache : Cache) (stack : ℕ) (s : Slots) → IsCache width height cache
    → slots_of cache stack ≡ Some s → AreOfCanvas width height s
slots-sides width height cache stack s is found = canvas-found width height cache.held stack s is.of_canvas found

-- ---- those that come

-- the first i stacks have come
pub record HaveCome (stacks : List NodeId) (i version : ℕ) (first : Cache) (start : Pool) (cache : Cache)
    (pool : Pool) : Type 0 where
  pub left : with_stacks (numbers (drop i stacks)) start.width start.height version cache
      ≡ with_stacks (numbers stacks) start.width start.height version first
  pub coming : AreComing (numbers (drop i stacks)) start.width start.height version cache
  pub pool_is : pool ≡ record start { count = start.count - i }

pub come-here : (stacks : List NodeId) (i version : ℕ) (first : Cache) (start : Pool) (cache : Cache) (pool : Pool) (d : NodeId)
    → i < length stacks
    → HaveCome stacks i version first start cache pool
    → (has_slots cache (get_or stacks i d).0 ≡ false) × (length cache.held < MAX_STACKS)
come-here stacks i version first start cache pool d within have =
    let here : AreComing (numbers (get_or stacks i d ∷ drop (i + 1) stacks)) start.width start.height version cache =
    subst (λ xs. AreComing (numbers xs) start.width start.height version cache) (drop_more stacks i d within) have.coming in
    (here.0, here.1.0)
