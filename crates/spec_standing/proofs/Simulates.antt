-- What stands now follows the machine, call by call.
use Rattle.std.proofs.Common.{◌≡◌, ℕ, ◌+◌, ◌-◌, ◌≤◌, Bool, true, false, cond, not, nat_lt, List, [], ◌∷◌, ◌++◌, length}
use Rattle.std.proofs.Common.{map, take, refl, sym, ◌∙◌, ap, subst, arith, length-append}
use Rattle.std.specs.Prelude.{Option, Some, None, Result, Ok, Err, slice_get, option_to_list}
use Rattle.std.specs.List.{AllByRecursion}
use Rattle.std.proofs.lemmas.List.{take-map}
use Rattle.spec_document.specs.declared.TileAt.{TileAt}
use Rattle.spec_document.specs.Grid.{is_on_grid}
use Rattle.spec_document.specs.Document.{Document}
use Rattle.spec_document.proofs.Elements.{all-take}
use Rattle.spec_edit.specs.Edit.{Edit}
use Rattle.spec_edit.specs.Apply.{At, Refused, apply_group}
use Rattle.spec_cache.specs.Slots.{Shown}
use Rattle.spec_cache.specs.Cache.{Cache, kept}
use Rattle.spec_history.specs.Machine as machine
use Rattle.spec_history.specs.Machine.{Call, Reply, tile_of, no_stack, outside_tile, Answer, moved, not_top, top_group}
use Rattle.spec_history.specs.Machine.{names, Cause, State, Done, latest, document_at, has_stack, made, again, answer}
use Rattle.spec_history.specs.Machine.{undo_answer, redo_answer}
use Rattle.spec_history.specs.declared.TheConstants.{MAX_UNDO}
use Rattle.spec_history.specs.Chained.{Undoes, Redoes, IsThere, IsChained}
use Rattle.spec_history.proofs.Growing.{Grows, grows_by, document_at-grows}
use Rattle.spec_history.proofs.Versions.{IsWithin, IsSound}
use Rattle.spec_history.proofs.Stacks.{last-document, behind}
use Rattle.spec_history.proofs.Causes.{slice_get-front, slice_get-last}
use Rattle.spec_world.specs.World.{World, document_now, rects_of, cache_after}
use Rattle.spec_world.specs.Events as events
use Rattle.spec_world.specs.Events.{peek_reply, reply_to, cache_of}
use Rattle.spec_standing.specs.Change.{change_between, gone_along, IsCacheOf, rects_in, AreOfCanvas, LeavesCacheBetween}
use Rattle.spec_standing.specs.Group.{damage_along, HasGroupDamage}
use Rattle.spec_standing.specs.Steps.{Step}
use Rattle.spec_standing.specs.Now.{Now, Response, response, stays, kept_after, step_made, made_now, undone_of, redone_of}
use Rattle.spec_standing.specs.Now.{taken_back, with_tile, top_of, damage_behind, damage_at, undo_of, redo_of, now_of}

-- one is told this, and what stands afterwards is what stands in this state with these pictures
pub record Follows (base : Document) (t : Response) (reply : Reply) (state : State) (cache : Cache) : Type 0 where
  pub says : t.reply ≡ reply
  pub stands : t.now ≡ now_of base state cache

-- by an answer of the machine to a call
abbrev Goes : Document → (old : State) → Cache → Call → Response → Answer → Type 0
Goes base old cache call t a = Follows base t a.reply a.state (cache_of base old a.state call a.reply cache)

goes_either : (base : Document) (old : State) (cache : Cache) (call : Call) (b : Bool) (t u : Response) (a c : Answer)
    → Goes base old cache call t a → Goes base old cache call u c
    → Goes base old cache call (cond b t u) (cond b a c)
goes_either base old cache call true t u a c one other = one
goes_either base old cache call false t u a c one other = other

-- ---- what comes behind

-- documents and causes come behind those of a state
record Later (s t : State) : Type 0 where
  grows : Grows s.documents t.documents
  more : List Cause
  causes : t.causes ≡ s.causes ++ more

same-damage : (s t : State) (version : ℕ) → Later s t → length s.causes ≡ latest s → 1 ≤ version → version ≤ latest s
    → damage_at t version ≡ damage_at s version
same-damage s t version later count first there =
    ap (λ cs. damage_behind (slice_get cs (version - 1))) later.causes
    ∙ ap damage_behind (slice_get-front s.causes later.more (version - 1) (omega (arith, count, first, there)))

-- what an undo or a redo gives stays the same
same-undo : (base : Document) (s t : State) (ds : List Done) → IsSound s → length s.causes ≡ latest s → Later s t
    → AllByRecursion (IsThere s) ds → map (undo_of base t) ds ≡ map (undo_of base s) ds
same-undo base s t [] sound count later all = refl
same-undo base s t (d ∷ ds) sound count later all =
    let some = sound.some in
    let there = all.0 in
    let is_after = there.after in
    let is_before = there.before in
    let after : document_at base t d.after ≡ document_at base s d.after =
    document_at-grows base s t d.after later.grows (omega (arith, some, is_after)) in
    let before : document_at base t d.before ≡ document_at base s d.before =
    document_at-grows base s t d.before later.grows (omega (arith, some, is_before)) in
    let damage = same-damage s t d.after later count there.later there.after in
    let one : undo_of base t d ≡ undo_of base s d = λ i. (d.group, record { from = after i; to = before i; damage = damage i }) in
    λ i. one i ∷ same-undo base s t ds sound count later all.1 i

same-redo : (base : Document) (s t : State) (ds : List Done) → IsSound s → length s.causes ≡ latest s → Later s t
    → AllByRecursion (IsThere s) ds → map (redo_of base t) ds ≡ map (redo_of base s) ds
same-redo base s t [] sound count later all = refl
same-redo base s t (d ∷ ds) sound count later all =
    let some = sound.some in
    let there = all.0 in
    let is_after = there.after in
    let is_before = there.before in
    let after : document_at base t d.after ≡ document_at base s d.after =
    document_at-grows base s t d.after later.grows (omega (arith, some, is_after)) in
    let before : document_at base t d.before ≡ document_at base s d.before =
    document_at-grows base s t d.before later.grows (omega (arith, some, is_before)) in
    let damage = same-damage s t d.after later count there.later there.after in
    let one : redo_of base t d ≡ redo_of base s d = λ i. (d.group, record { from = before i; to = after i; damage = damage i }) in
    λ i. one i ∷ same-redo base s t ds sound count later all.1 i

last-of : {A : Type 0} (xs : List A) (o : Option A) → slice_get (xs ++ option_to_list o) (length xs) ≡ o
last-of [] None = refl
last-of [] (Some x) = refl
last-of (y ∷ xs) o = last-of xs o

-- ---- the pictures that are kept

-- a state of the machine with the pictures that are kept of its last document
pub record IsReady (base : Document) (s : State) (cache : Cache) : Type 0 where
  pub sound : IsSound s
  pub chained : IsChained base s
  pub canvas : AreOfCanvas base (document_now base s)
  pub kept : IsCacheOf (document_now base s) cache

module _ (between : (base old new : Document)
    → LeavesCacheBetween base old new) (along : (old : At) (edits : List Edit) (tables : List (List ℕ))
    → HasGroupDamage old edits tables) where
  rects-behind : (cause : Option Cause) (stack : ℕ) → rects_in (damage_behind cause) stack ≡ rects_of cause stack
  rects-behind None stack = refl
  rects-behind (Some c) stack = along c.old c.edits c.tables stack

  -- a step to a new version leaves what the version leaves
  kept-follows : (base : Document) (s t : State) (cache : Cache) (step : Step) → IsReady base s cache
      → step.from ≡ document_now base s → document_now base t ≡ step.to
      → step.damage ≡ damage_behind (slice_get t.causes (latest t - 1)) → latest t ≡ latest s + 1
      → kept_after (now_of base s cache) step ≡ cache_after base s t cache
  kept-follows base s t cache step ready from to damage version =
      (λ i. gone_along (change_between (from i) (sym to i) (damage i)) (sym version i) cache)
      ∙ between base (document_now base s) (document_now base t) (slice_get t.causes (latest t - 1))
      (damage_behind (slice_get t.causes (latest t - 1))) (latest t) cache
      ready.canvas ready.kept (rects-behind (slice_get t.causes (latest t - 1)))

  -- ---- edits

  goes-made : (base : Document) (s : State) (cache : Cache) (guard : Option ℕ) (edits : List Edit) (tables : List (List ℕ))
      (r : Result At Refused) → IsReady base s cache
      → Goes base s cache (machine.edit guard edits)
      (made_now (now_of base s cache)
      (damage_along (record { document = document_now base s; next = s.next_id }) edits tables) r)
      (made s (record { document = document_now base s; next = s.next_id }) edits tables r)
  goes-made base s cache guard edits tables (Err r) ready = record { says = refl; stands = refl }
  goes-made base s cache guard edits tables (Ok at) ready =
      let sound = ready.sound in
      let some = sound.some in
      let count = ready.chained.causes in
      let old : At = record { document = document_now base s; next = s.next_id } in
      let cause : Cause = record { old = old; edits = edits; tables = tables } in
      let t : State = (made s old edits tables (Ok at)).state in
      let later : Later s t = record {
        grows = grows_by s.documents t.documents (at.document ∷ []) refl;
        more = cause ∷ [];
        causes =
            refl;
      } in
      let document : document_at base t (latest t) ≡ at.document = last-document base t s.documents at.document refl in
      let before : document_at base t (latest s) ≡ document_at base s (latest s) =
      document_at-grows base s t (latest s) later.grows (omega arith) in
      let undo : map (undo_of base t) (take (MAX_UNDO - 1) s.undo) ≡ take (MAX_UNDO - 1) (map (undo_of base s) s.undo) =
      same-undo base s t (take (MAX_UNDO - 1) s.undo) sound count later
      (all-take (IsThere s) (MAX_UNDO - 1) s.undo ready.chained.undo_there)
      ∙ sym (take-map (undo_of base s) (MAX_UNDO - 1) s.undo) in
      let version : latest t ≡ latest s + 1 = simp length-append (omega arith) in
      let after : document_at base t (latest s + 1) ≡ at.document = ap (document_at base t) (sym version) ∙ document in
      let place : latest s + 1 - 1 ≡ length s.causes = omega (arith, count) in
      let damage : damage_at t (latest s + 1) ≡ damage_along old edits tables =
      ap (λ n. damage_behind (slice_get t.causes n)) place ∙ ap damage_behind (slice_get-last s.causes cause) in
      let step = step_made (now_of base s cache) at (damage_along old edits tables) in
      let pictures = kept-follows base s t cache step ready refl document (sym damage
      ∙ ap (λ n. damage_at t n) (sym version)) version in
      record {
        says = refl;
        stands = λ i. record {
          document = sym document i;
          undo = (s.next_group, record { from = sym after i; to = sym before i; damage = sym damage i }) ∷ sym undo i;
          redo = [];
          next_id = at.next;
          next_group = s.next_group + 1;
          version = sym version i;
          cache = pictures i;
        };
      }

  goes-edited : (base : Document) (s : State) (cache : Cache) (guard : Option ℕ) (edits : List Edit) (seen : ℕ)
      (tables : List (List ℕ)) → IsReady base s cache
      → Goes base s cache (machine.edit guard edits) (response (now_of base s cache) (machine.edit guard edits) seen tables)
      (answer base s (machine.edit guard edits) tables)
  goes-edited base s cache guard edits seen tables ready =
      let now = now_of base s cache in
      let old : At = record { document = document_at base s (latest s); next = s.next_id } in
      let r = apply_group old edits tables in
      goes_either base s cache (machine.edit guard edits) (names guard (latest s)) (made_now now (damage_along old edits tables) r)
      (stays now (moved (latest s)))
      (made s old edits tables r) (machine.stays s (moved (latest s)))
      (goes-made base s cache guard edits tables r ready) (record { says = refl; stands = refl })

  -- ---- undo and redo

  -- a document that stood once is the next version
  record Again (s t : State) (d : Document) (base : Document) (cause : Option Cause) : Type 0 where
    later : Later s t
    document : document_at base t (latest t) ≡ d
    version : latest t ≡ latest s + 1
    behind : slice_get t.causes (latest t - 1) ≡ cause

  stands_again : (base : Document) (s t : State) (d : Document) (cause : Option Cause) → IsSound s → length s.causes ≡ latest s
      → t.documents ≡ s.documents ++ d ∷ []
      → t.causes ≡ s.causes ++ option_to_list cause → Again s t d base cause
  stands_again base s t d cause sound count behind causes =
      let some = sound.some in
      let version : latest t ≡ latest s + 1 = rw (behind, length-append) (omega arith) in
      let place : latest t - 1 ≡ length s.causes = omega (arith, version, count) in
      record {
        later = record { grows = grows_by s.documents t.documents (d ∷ []) behind; more = option_to_list cause; causes = causes };
        document = last-document base t s.documents d behind;
        version = version;
        behind = ap (slice_get t.causes) place ∙ (ap (λ cs. slice_get cs (length s.causes)) causes ∙ last-of s.causes cause);
      }

  -- the document before a group stands again, and the step leads to the one after it
  goes-taken_back : (base : Document) (s : State) (cache : Cache) (named : Option ℕ) (d : Done) (ds : List Done)
      → IsReady base s cache
      → document_at base s d.after ≡ document_now base s → AllByRecursion (IsWithin (length s.documents)) (d ∷ ds)
      → AllByRecursion (IsThere s) (d ∷ ds)
      → Goes base s cache (machine.undo named) (taken_back (now_of base s cache) d.group (undo_of base s d).1 (map (undo_of base s) ds))
      (record {
        reply = machine.changed (latest s + 1) d.group s.next_id;
        state =
            record (again s d.before d.after) { undo = ds; redo = d ∷ s.redo };
      })
  goes-taken_back base s cache named d ds ready from all there =
      let sound = ready.sound in
      let count = ready.chained.causes in
      let t : State = record (again s d.before d.after) { undo = ds; redo = d ∷ s.redo } in
      let is = stands_again base s t (document_at base s d.before) (slice_get s.causes (d.after - 1)) sound count
      (behind base s d.before d.after all.0.before) refl in
      let before : document_at base t d.before ≡ document_at base s d.before =
      document_at-grows base s t d.before is.later.grows all.0.before in
      let after : document_at base t d.after ≡ document_at base s d.after =
      document_at-grows base s t d.after is.later.grows all.0.after in
      let damage = same-damage s t d.after is.later count there.0.later there.0.after in
      let undo : map (undo_of base t) ds ≡ map (undo_of base s) ds = same-undo base s t ds sound count is.later there.1 in
      let redo : map (redo_of base t) s.redo ≡ map (redo_of base s) s.redo =
      same-redo base s t s.redo sound count is.later ready.chained.redo_there in
      let pictures = kept-follows base s t cache (undo_of base s d).1 ready from is.document
      (ap damage_behind (sym is.behind)) is.version in
      record {
        says = refl;
        stands = λ i. record {
          document = sym is.document i;
          undo = sym undo i;
          redo = (d.group, record { from = sym before i; to = sym after i; damage = sym damage i }) ∷ sym redo i;
          next_id = s.next_id;
          next_group = s.next_group;
          version = sym is.version i;
          cache = pictures i;
        };
      }

  goes-undone : (base : Document) (s : State) (cache : Cache) (named : Option ℕ) (ds : List Done) → IsReady base s cache
      → s.undo ≡ ds
      → Goes base s cache (machine.undo named) (undone_of (now_of base s cache) named (map (undo_of base s) ds))
      (undo_answer s named ds)
  goes-undone base s cache named [] ready is = record { says = refl; stands = refl }
  goes-undone base s cache named (d ∷ ds) ready is =
      let now = now_of base s cache in
      let within = subst (AllByRecursion (IsWithin (length s.documents))) is ready.sound.undo in
      let there = subst (AllByRecursion (IsThere s)) is ready.chained.undo_there in
      let from = subst (Undoes (document_at base s) (document_at base s ready.chained.oldest) (document_now base s)) is
      ready.chained.undo in
      goes_either base s cache (machine.undo named) (names named d.group)
      (taken_back now d.group (undo_of base s d).1 (map (undo_of base s) ds))
      (stays now (not_top d.group))
      (record {
        reply = machine.changed (latest s + 1) d.group s.next_id;
        state =
            record (again s d.before d.after) { undo = ds; redo = d ∷ s.redo };
      })
      (machine.stays s (not_top d.group))
      (goes-taken_back base s cache named d ds ready from.0 within there)
      (record { says = refl; stands = refl })

  -- the document after a group stands again, and the step leads to the one before it
  goes-redone : (base : Document) (s : State) (cache : Cache) (ds : List Done) → IsReady base s cache → s.redo ≡ ds
      → Goes base s cache machine.redo (redone_of (now_of base s cache) (map (redo_of base s) ds)) (redo_answer s ds)
  goes-redone base s cache [] ready is = record { says = refl; stands = refl }
  goes-redone base s cache (d ∷ ds) ready is =
      let sound = ready.sound in
      let count = ready.chained.causes in
      let all = subst (AllByRecursion (IsWithin (length s.documents))) is sound.redo in
      let there = subst (AllByRecursion (IsThere s)) is ready.chained.redo_there in
      let from = subst (Redoes (document_at base s) (document_now base s)) is ready.chained.redo in
      let t : State = (redo_answer s (d ∷ ds)).state in
      let again = stands_again base s t (document_at base s d.after) (slice_get s.causes (d.after - 1)) sound count
      (behind base s d.after d.after all.0.after) refl in
      let before : document_at base t d.before ≡ document_at base s d.before =
      document_at-grows base s t d.before again.later.grows all.0.before in
      let after : document_at base t d.after ≡ document_at base s d.after =
      document_at-grows base s t d.after again.later.grows all.0.after in
      let damage = same-damage s t d.after again.later count there.0.later there.0.after in
      let undo : map (undo_of base t) (take (MAX_UNDO - 1) s.undo) ≡ take (MAX_UNDO - 1) (map (undo_of base s) s.undo) =
      same-undo base s t (take (MAX_UNDO - 1) s.undo) sound count again.later
      (all-take (IsThere s) (MAX_UNDO - 1) s.undo ready.chained.undo_there)
      ∙ sym (take-map (undo_of base s) (MAX_UNDO - 1) s.undo) in
      let redo : map (redo_of base t) ds ≡ map (redo_of base s) ds = same-redo base s t ds sound count again.later there.1 in
      let pictures = kept-follows base s t cache (redo_of base s d).1 ready from.0 again.document
      (ap damage_behind (sym again.behind)) again.version in
      record {
        says = refl;
        stands = λ i. record {
          document = sym again.document i;
          undo = (d.group, record { from = sym after i; to = sym before i; damage = sym damage i }) ∷ sym undo i;
          redo = sym redo i;
          next_id = s.next_id;
          next_group = s.next_group;
          version = sym again.version i;
          cache = pictures i;
        };
      }

  -- ---- tiles

  goes-shown : (base : Document) (s : State) (cache : Cache) (stack : ℕ) (at : TileAt) (seen : ℕ) (tables : List (List ℕ))
      → Goes base s cache (machine.tile stack at) (response (now_of base s cache) (machine.tile stack at) seen tables)
      (answer base s (machine.tile stack at) tables)
  goes-shown base s cache stack at seen tables = go (not (has_stack d stack)) (not (is_on_grid d.width d.height at))
    where
      d : Document
      d = document_now base s

      now : Now
      now = now_of base s cache

      reply : (b c : Bool) → Reply
      reply b c = cond b (no_stack stack) (cond c outside_tile (tile_of (latest s)))

      go : (b c : Bool) → Goes base s cache (machine.tile stack at)
          (cond b (stays now (no_stack stack))
          (cond c (stays now outside_tile) (record { reply = tile_of (latest s); now = with_tile now stack at })))
          (machine.stays s (cond b (no_stack stack) (cond c outside_tile (tile_of (latest s)))))
      go true c = record { says = refl; stands = refl }
      go false true = record { says = refl; stands = refl }
      go false false = record { says = refl; stands = refl }

  goes-peeked : (base : Document) (w : World) (stack : ℕ) (at : TileAt) (seen : ℕ) (tables : List (List ℕ))
      → Follows base (response (now_of base w.state w.cache) (machine.peek stack at) seen tables)
      (reply_to base w (machine.peek stack at) seen tables) w.state
      (cache_of base w.state w.state (machine.peek stack at) (reply_to base w (machine.peek stack at) seen tables) w.cache)
  goes-peeked base w stack at seen tables = go (not (has_stack d stack)) (not (is_on_grid d.width d.height at))
    where
      d : Document
      d = document_now base w.state

      now : Now
      now = now_of base w.state w.cache

      reply : Reply
      reply = peek_reply (kept w.cache stack at (latest w.state)) seen

      stale-or-tile : (b : Bool) (have : Option ℕ) (version : ℕ)
          → cache_of base w.state w.state (machine.peek stack at) (cond b (machine.stale have seen) (tile_of version)) w.cache
          ≡ w.cache
      stale-or-tile true have version = refl
      stale-or-tile false have version = refl

      same : (o : Option Shown) → cache_of base w.state w.state (machine.peek stack at) (peek_reply o seen) w.cache ≡ w.cache
      same None = refl
      same (Some k) = stale-or-tile (nat_lt k.version seen) (Some k.version) k.version

      go : (b c : Bool) → Follows base
          (cond b (stays now (no_stack stack)) (cond c (stays now outside_tile) (stays now reply)))
          (events.where_tile (cond b (no_stack stack) (cond c outside_tile (tile_of (latest w.state)))) reply) w.state
          (cache_of base w.state w.state (machine.peek stack at)
          (events.where_tile (cond b (no_stack stack) (cond c outside_tile (tile_of (latest w.state)))) reply) w.cache)
      go true c = record { says = refl; stands = refl }
      go false true = record { says = refl; stands = refl }
      go false false =
          record { says = refl; stands = ap (now_of base w.state) (sym (same (kept w.cache stack at (latest w.state)))) }

  -- ---- any call

  same-top : (base : Document) (s : State) (ds : List Done) → top_of (map (undo_of base s) ds) ≡ top_group ds
  same-top base s [] = refl
  same-top base s (d ∷ ds) = refl

  -- a call is told what the world answers, and the world's state and pictures stand afterwards
  pub follows : (base : Document) (w : World) (call : Call) (seen : ℕ) (tables : List (List ℕ)) → IsReady base w.state w.cache
      → Follows base (response (now_of base w.state w.cache) call seen tables) (reply_to base w call seen tables)
      (answer base w.state call tables).state
      (cache_of base w.state (answer base w.state call tables).state call (reply_to base w call seen tables) w.cache)
  follows base w (machine.edit guard edits) seen tables ready = goes-edited base w.state w.cache guard edits seen tables ready
  follows base w (machine.undo named) seen tables ready = goes-undone base w.state w.cache named w.state.undo ready refl
  follows base w machine.redo seen tables ready = goes-redone base w.state w.cache w.state.redo ready refl
  follows base w (machine.tile stack at) seen tables ready = goes-shown base w.state w.cache stack at seen tables
  follows base w (machine.peek stack at) seen tables ready = goes-peeked base w stack at seen tables
  follows base w machine.top seen tables ready =
      record { says = ap (λ g. machine.top_is g (latest w.state)) (same-top base w.state w.state.undo); stands = refl }
