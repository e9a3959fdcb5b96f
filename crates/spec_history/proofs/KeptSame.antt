-- What is kept of a tile shows what the last tile call showed.
use Rattle.std.proofs.Common.{◌≡◌, ℕ, ◌+◌, ◌-◌, ◌≤◌, Bool, true, false, cond, List, refl, arith}
use Rattle.std.specs.Prelude.{find, Option, Some, None, option_map, unwrap_or, IfSome}
use Rattle.std.specs.List.{list_all}
use Rattle.spec_document.specs.declared.TileAt.{TileAt}
use Rattle.spec_document.specs.Rect.{count_from}
use Rattle.spec_document.specs.Document.{Document}
use Rattle.spec_document.specs.Limits.{IsDocument}
use Rattle.spec_history.specs.Machine.{State, latest, document_at, has_stack}
use Rattle.spec_history.specs.History.{Entry, replay, Run}
use Rattle.spec_history.specs.Kept.{last_tile, damaged_at, kept_in, kept}
use Rattle.spec_history.specs.TilesStay.{StackStays, IsUndamaged}
use Rattle.spec_history.specs.KeptNext.{IsKept}
use Rattle.spec_history.proofs.Numbers.{all_counted, not_found, found}
use Rattle.spec_history.proofs.GroupsBehind.{IsCaused, caused-replay}
use Rattle.spec_history.proofs.TilesStay.{tile_keeps}
use Rattle.spec_history.proofs.LastTile.{last-run}

-- the stack is there up to the last version, and no version up to k damages the tile
pub record KeptTo (base : Document) (s : State) (stack : ℕ) (at : TileAt) (a k : ℕ) : Type 0 where
  pub from : a ≤ k
  pub within : k ≤ latest s
  pub there : StackStays base s stack a (latest s)
  pub whole : IsUndamaged base s stack at a k

kept_found : (base : Document) (s : State) (stack : ℕ) (at : TileAt) (a : ℕ) (next : Option ℕ) → a ≤ latest s
    → StackStays base s stack a (latest s)
    → find (damaged_at base s stack at) (count_from (a + 1) (latest s - a)) ≡ next
    → KeptTo base s stack at a (unwrap_or (option_map (λ w. w - 1) next) (latest s))
kept_found base s stack at a None le there e = record {
  from = le;
  within = omega arith;
  there = there;
  whole = λ w low high. not_found (damaged_at base s stack at) (a + 1) (latest s - a) w e (omega (arith, low))
      (omega (arith, high, le));
}
kept_found base s stack at a (Some w) le there e =
    let f = found (damaged_at base s stack at) (a + 1) (latest s - a) w e in
    let low = f.low in
    let high = f.high in
    record {
      from = omega arith;
      within = omega arith;
      there = there;
      whole = λ v from to. f.before v (omega (arith, from)) (omega (arith, to, low));
    }

pub kept_to : (base : Document) (s : State) (stack : ℕ) (at : TileAt) (a : ℕ) → a ≤ latest s
    → IfSome (kept_in base s stack at (Some a)) (KeptTo base s stack at a)
kept_to base s stack at a le =
    step (list_all (λ v. has_stack (document_at base s v) stack) (count_from a (latest s + 1 - a))) refl where
      step : (always : Bool) → list_all (λ v. has_stack (document_at base s v) stack) (count_from a (latest s + 1 - a)) ≡ always
          → IfSome (cond always (Some (unwrap_or
          (option_map (λ w. w - 1) (find (damaged_at base s stack at) (count_from (a + 1) (latest s - a)))) (latest s))) None)
          (KeptTo base s stack at a)
      step true e =
          kept_found base s stack at a (find (damaged_at base s stack at) (count_from (a + 1) (latest s - a))) le
          (λ v low high. all_counted (λ v. has_stack (document_at base s v) stack) a (latest s + 1 - a) v e low
          (omega (arith, low, high))) refl
      step false e = tt

kept_is : (base : Document) (es : List Entry) (stack : ℕ) (at : TileAt) (a : ℕ) (o : Option ℕ) → IsCaused base (replay base es)
    → last_tile stack at es ≡ Some a
    → IfSome o (KeptTo base (replay base es) stack at a) → IfSome o (IsKept base es stack at)
kept_is base es stack at a None caused last to = tt
kept_is base es stack at a (Some k) caused last to =
    let s = replay base es in
    let within = to.within in
    record {
      shown = a;
      last = last;
      from = to.from;
      within = within;
      there = to.there;
      same = λ v low high.
          tile_keeps base s stack at v k caused high within
          (λ u from up. to.there u (omega (arith, low, from)) (omega (arith, up, within)))
          (λ w from up. to.whole w (omega (arith, low, from)) up);
    }

pub kept-same : (base : Document) (es : List Entry) (stack : ℕ) (at : TileAt) → IsDocument base → Run base es
    → IfSome (kept base es stack at) (IsKept base es stack at)
kept-same base es stack at is run = step (last_tile stack at es) refl where
  step : (o : Option ℕ) → last_tile stack at es ≡ o → IfSome (kept_in base (replay base es) stack at o) (IsKept base es stack at)
  step None e = tt
  step (Some a) e =
      kept_is base es stack at a (kept_in base (replay base es) stack at (Some a)) (caused-replay base es is) e
      (kept_to base (replay base es) stack at a (last-run base es stack at a run e))
