-- Each event but the result of a job leaves exact slots.
use Rattle.std.proofs.Common.{◌≡◌, ℕ, ◌≤◌, Bool, true, false, cond, not, ◌&&◌, ◌==◌, nat_lt, List, [], ◌∷◌, ◌++◌, refl}
use Rattle.std.proofs.Common.{sym, ◌∙◌, ap, subst, true≢false, arith, eq-eqb}
use Rattle.std.specs.Prelude.{Option, Some, None, IfSome, is_some, option_and_then, unwrap_or}
use Rattle.std.proofs.lemmas.Bool.{eqb-true}
use Rattle.spec_document.specs.declared.TileAt.{TileAt}
use Rattle.spec_document.specs.Grid.{is_on_grid, same_tile}
use Rattle.spec_document.specs.Document.{Document}
use Rattle.spec_document.specs.Limits.{IsDocument}
use Rattle.spec_document.specs.Picture.{project}
use Rattle.spec_cache.specs.Slots.{Slot, Slots, slot_at, change_slot, fill_slot, shown_as, shown_by}
use Rattle.spec_cache.specs.Cache as cache
use Rattle.spec_cache.specs.Cache.{Place, slots_of, slot_of, change_stack, next_place, with_last}
use Rattle.spec_cache.proofs.Found.{canvas-found, slot-there}
use Rattle.spec_history.specs.Machine.{Call, edit, undo, redo, tile, peek, top, Reply, changed, tile_of, no_stack}
use Rattle.spec_history.specs.Machine.{outside_tile, saved, save_fault, save_memory, history_full, tile_reply, State}
use Rattle.spec_history.specs.Machine.{Saving, latest, document_at, answer, has_stack}
use Rattle.spec_history.specs.History.{Entry, asked, starts, ends, next_index, after_entry, is_changed, IsStep, PeekAnswers}
use Rattle.spec_history.specs.Limited.{AsksCall}
use Rattle.spec_history.specs.Kept as history
use Rattle.spec_history.specs.Kept.{shown_version, PeekMeetsKept}
use Rattle.spec_history.specs.Slots.{version_kept, slot_peek, IsExactSlot, kept_peek}
use Rattle.spec_history.proofs.Canvas.{canvas-document}
use Rattle.spec_history.proofs.SlotsExact.{exact-shown, exact-peek}
use Rattle.spec_world.specs.declared.SaveEnd.{SaveEnd}
use Rattle.spec_world.specs.declared.SaveEnd.TheVariants.{Done, Fault, Memory}
use Rattle.spec_world.specs.World.{World, document_now, free_entries, cache_after}
use Rattle.spec_world.specs.Events.{submits, takes, finishes, begins_save, ends_save, peek_reply, where_tile, reply_to}
use Rattle.spec_world.specs.Events.{show_slot, cache_of, with_entry, with_call, Outcome, submit, add_job, take_job}
use Rattle.spec_world.specs.Events.{save_starts, start_where, end_where}
use Rattle.spec_world.specs.Right.{IsPictureAt, IsRight}
use Rattle.spec_world.specs.Exact.{SlotIsExact, SlotsAreExact, StaysExact, AnswersExactly}
use Rattle.spec_world.proofs.Standing.{same-tile, changed-slot}
use Rattle.spec_world.proofs.Filled.{eq-swap, tile_entry, slots-of-slot}
use Rattle.spec_world.proofs.Submitted.{Keeps, keeps-edit, keeps-undo, keeps-redo, keeps-top, keeps-peek, entry_of}
use Rattle.spec_world.proofs.Submitted.{peek-allowed, meets-plain}
use Rattle.spec_world.proofs.AllRight.{may-end}
use Rattle.spec_world.proofs.Exact.{IsNext, next-entry, plain-step, slot-stays, stays-exact, changes-exact}

-- ---- calls that show no tile

-- with a reply that makes no version
kept-exact : (base : Document) (w : World) (session : ℕ) (call : Call) (tables : List (List ℕ)) (reply : Reply) → IsDocument base
    → IsRight base w → SlotsAreExact base w → AsksCall (asked call tables)
    → IsStep base w.state w.entries (entry_of w session call tables reply) → PeekMeetsKept base w.entries (asked call tables) reply
    → is_changed reply ≡ false → ((stack : ℕ) (at : TileAt) → shown_version (asked call tables) reply stack at ≡ None)
    → cache_of base w.state (after_entry base w.state (entry_of w session call tables reply)) call reply w.cache ≡ w.cache
    → SlotsAreExact base (with_call base w session call tables reply)
kept-exact base w session call tables reply within is exact asks step peeks unchanged silent kept =
    let e = entry_of w session call tables reply in
    subst (λ c. SlotsAreExact base (record (with_entry base w e) { cache = c })) (sym kept)
    (stays-exact base w e (next-entry base w e within is exact asks step peeks) unchanged silent)

-- with any reply of the machine
plain-exact : (base : Document) (w : World) (session : ℕ) (call : Call) (tables : List (List ℕ)) (reply : Reply) → IsDocument base
    → IsRight base w → SlotsAreExact base w → AsksCall (asked call tables)
    → IsStep base w.state w.entries (entry_of w session call tables reply) → PeekMeetsKept base w.entries (asked call tables) reply
    → ((r : Reply) (stack : ℕ) (at : TileAt) → shown_version (asked call tables) r stack at ≡ None)
    → ((t : State) → Keeps base w.state t call w.cache)
    → ((v g n : ℕ) (t : State) → cache_of base w.state t call (changed v g n) w.cache ≡ cache_after base w.state t w.cache)
    → SlotsAreExact base (with_call base w session call tables reply)
plain-exact base w session call tables (changed v g n) within is exact asks step peeks silent keeps follows =
    let e = entry_of w session call tables (changed v g n) in
    subst (λ c. SlotsAreExact base (record (with_entry base w e) { cache = c })) (sym (follows v g n (after_entry base w.state e)))
    (changes-exact base w e (next-entry base w e within is exact asks step peeks) refl (λ stack at. silent (changed v g n) stack at))
plain-exact base w session call tables reply within is exact asks step peeks silent keeps follows =
    kept-exact base w session call tables reply within is exact asks step peeks refl (λ stack at. silent reply stack at)
    (keeps (after_entry base w.state (entry_of w session call tables reply)) reply refl)

-- ---- a tile

-- the slot of the tile that is shown
shown-exact : (base : Document) (w : World) (session stack : ℕ) (at : TileAt) (tables : List (List ℕ)) (old : Slot)
    → IsNext base w (tile_entry session (next_index w.entries session) stack at tables (latest w.state))
    → slot_of w.cache stack at ≡ Some old
    → SlotIsExact base (w.entries ++ tile_entry session (next_index w.entries session) stack at tables (latest w.state)
    ∷ []) stack at
    (show_slot (project (document_now base w.state) stack at) old)
shown-exact base w session stack at tables old n found = go old.marked refl
  where
    e : Entry
    e = tile_entry session (next_index w.entries session) stack at tables (latest w.state)

    picture : List ℕ
    picture = project (document_now base w.state) stack at

    same : (k : ℕ) → (k == k) ≡ true
    same k = eq-eqb k k refl

    shown : IsExactSlot base (w.entries ++ e ∷ []) stack at (Some picture) old.good_to false old.marked_at
    shown =
        exact-shown base w.entries e stack at old.picture old.good_to old.marked old.marked_at picture
        (latest w.state) n.is.legal.run (plain-step base w e n) (n.exact stack at old found)
        (λ i. cond (same stack i && (same at.col i && same at.row i)) (Some (latest w.state)) None)
        (ap (λ s. project (document_now base s) stack at) n.is.replayed)

    go : (b : Bool) → old.marked ≡ b → SlotIsExact base (w.entries ++ e ∷ []) stack at (cond b (fill_slot picture old) old)
    go true m = shown
    go false m =
        let E : Option (List ℕ) → Bool → Type 0 =
        λ o b. IsExactSlot base (w.entries ++ e ∷ []) stack at o old.good_to b old.marked_at in
        subst (λ o. E o old.marked) (sym (n.is.clean stack at old found m)) (subst (E (Some picture)) (sym m) shown)

tile-exact : (base : Document) (w : World) (session k : ℕ) (place : TileAt) (tables : List (List ℕ))
    → IsNext base w (tile_entry session (next_index w.entries session) k place tables (latest w.state))
    → SlotsAreExact base (record (with_entry base w
    (tile_entry session (next_index w.entries session) k place tables (latest w.state))) {
      cache = change_stack k (change_slot place (show_slot (project (document_now base w.state) k place))) w.cache;
    })
tile-exact base w session k place tables n stack at slot found =
    changed-slot stack k at place (show_slot (project (document_now base w.state) k place)) w.cache slot
    (SlotIsExact base (w.entries ++ entry k place ∷ []) stack at) found
    (λ old p q r.
    let t : at ≡ place = same-tile at place r in
    let s : stack ≡ k = eqb-true stack k q in
    let P : ℕ → TileAt → Type 0 = λ x y. slot_of w.cache x y ≡ Some old
    → SlotIsExact base (w.entries ++ entry k place ∷ []) x y (show_slot (project (document_now base w.state) k place) old) in
    subst (λ x. P x at) (sym s) (subst (λ y. P k y) (sym t) (shown-exact base w session k place tables old n)) p)
    (λ old p other.
    let here : (k == stack && same_tile place at) ≡ (stack == k && same_tile at place) =
    λ i. eq-swap k stack i && (eq-swap place.col at.col i && eq-swap place.row at.row i) in
    slot-stays base w (entry k place) stack at old n refl (ap (λ b. cond b (Some (latest w.state)) None) (here ∙ other)) p)
  where
    entry : ℕ → TileAt → Entry
    entry x y = tile_entry session (next_index w.entries session) x y tables (latest w.state)

tiles-exact : (base : Document) (w : World) (session k : ℕ) (place : TileAt) (tables : List (List ℕ)) (here on : Bool)
    → IsDocument base → IsRight base w → SlotsAreExact base w → AsksCall (asked (tile k place) tables)
    → tile_reply (document_now base w.state) k place (tile_of (latest w.state))
    ≡ cond here (no_stack k) (cond on outside_tile (tile_of (latest w.state)))
    → SlotsAreExact base (with_call base w session (tile k place) tables
    (cond here (no_stack k) (cond on outside_tile (tile_of (latest w.state)))))
tiles-exact base w session k place tables true on within is exact asks e =
    kept-exact base w session (tile k place) tables (no_stack k) within is exact asks (refl, sym e) tt refl (λ stack at. refl) refl
tiles-exact base w session k place tables false true within is exact asks e =
    kept-exact base w session (tile k place) tables outside_tile within is exact asks (refl, sym e) tt refl (λ stack at. refl) refl
tiles-exact base w session k place tables false false within is exact asks e =
    tile-exact base w session k place tables
    (next-entry base w (entry_of w session (tile k place) tables (tile_of (latest w.state))) within is exact asks (refl, sym e) tt)

-- ---- a peek

-- what is kept is the picture of its version
right-picture : (base : Document) (w : World) (stack : ℕ) (at : TileAt) → IsRight base w
    → IfSome (cache.kept w.cache stack at (latest w.state)) (λ k. IsPictureAt base w.state stack at k.version k.picture)
right-picture base w stack at is = go (slot_of w.cache stack at) refl
  where
    shown : (slot : Slot) (b : Bool) (picture : Option (List ℕ)) → slot_of w.cache stack at ≡ Some slot → slot.marked ≡ b
        → slot.picture ≡ picture
        → IfSome (shown_as (cond b slot.good_to (latest w.state)) picture)
        (λ k. IsPictureAt base w.state stack at k.version k.picture)
    shown slot b None p m q = tt
    shown slot true (Some picture) p m q =
        subst (λ o. IfSome o (IsPictureAt base w.state stack at slot.good_to)) q (is.marked stack at slot p m)
    shown slot false (Some picture) p m q = record {
      there = omega arith;
      has = sym (is.stacks stack) ∙ slots-of-slot w.cache stack at slot p;
      is = ap (λ o. unwrap_or o picture) (sym q ∙ is.clean stack at slot p m);
    }

    go : (o : Option Slot) → slot_of w.cache stack at ≡ o
        → IfSome (option_and_then (shown_by (latest w.state)) o) (λ k. IsPictureAt base w.state stack at k.version k.picture)
    go None p = tt
    go (Some slot) p = shown slot slot.marked slot.picture p refl refl

peeks-exact : (base : Document) (w : World) (session stack : ℕ) (at : TileAt) (seen : ℕ) (tables : List (List ℕ)) (here on : Bool)
    → IsDocument base → IsRight base w → SlotsAreExact base w → AsksCall (asked (peek stack at) tables)
    → seen ≤ latest w.state
    → tile_reply (document_now base w.state) stack at (tile_of (latest w.state))
    ≡ cond here (no_stack stack) (cond on outside_tile (tile_of (latest w.state)))
    → SlotsAreExact base (with_call base w session (peek stack at) tables
    (where_tile (cond here (no_stack stack) (cond on outside_tile (tile_of (latest w.state))))
    (peek_reply (cache.kept w.cache stack at (latest w.state)) seen)))
peeks-exact base w session stack at seen tables true on within is exact asks le e =
    kept-exact base w session (peek stack at) tables (no_stack stack) within is exact asks (
      refl,
      subst (λ r. PeekAnswers base w.state stack r (no_stack stack)) (sym e) refl,
    )
    (meets-plain (history.kept base w.entries stack at) stack).0 refl (λ k place. refl) refl
peeks-exact base w session stack at seen tables false true within is exact asks le e =
    kept-exact base w session (peek stack at) tables outside_tile within is exact asks (
      refl,
      subst (λ r. PeekAnswers base w.state stack r outside_tile) (sym e) refl,
    )
    (meets-plain (history.kept base w.entries stack at) stack).1 refl (λ k place. refl) refl
peeks-exact base w session stack at seen tables false false within is exact asks le e =
    let kept = cache.kept w.cache stack at (latest w.state) in
    let allowed = peek-allowed base w.state stack at kept (history.kept base w.entries stack at) seen le
    (right-picture base w stack at is) (is.enough stack at) in
    let reply = peek_reply kept seen in
    kept-exact base w session (peek stack at) tables reply within is exact asks (
      refl,
      subst (λ r. PeekAnswers base w.state stack r reply) (sym e) allowed.0,
    )
    allowed.1 allowed.2 (λ k place. refl)
    (keeps-peek base w.state (after_entry base w.state (entry_of w session (peek stack at) tables reply)) stack at w.cache reply
    allowed.2)

-- ---- any call

call-exact : (base : Document) (w : World) (session : ℕ) (call : Call) (seen : ℕ) (tables : List (List ℕ)) → IsDocument base
    → IsRight base w → SlotsAreExact base w → seen ≤ latest w.state → AsksCall (asked call tables)
    → SlotsAreExact base (with_call base w session call tables (reply_to base w call seen tables))
call-exact base w session (edit guard es) seen tables within is exact le asks =
    plain-exact base w session (edit guard es) tables (answer base w.state (edit guard es) tables).reply within is exact asks (
      refl,
      refl,
    ) tt (λ r k place. refl)
    (λ t. keeps-edit base w.state t guard es w.cache) (λ v g n t. refl)
call-exact base w session (undo named) seen tables within is exact le asks =
    plain-exact base w session (undo named) tables (answer base w.state (undo named) tables).reply within is exact asks (
      refl,
      refl,
    ) tt (λ r k place. refl)
    (λ t. keeps-undo base w.state t named w.cache) (λ v g n t. refl)
call-exact base w session redo seen tables within is exact le asks =
    plain-exact base w session redo tables (answer base w.state redo tables).reply within is exact asks (
      refl,
      refl,
    ) tt (λ r k place. refl)
    (λ t. keeps-redo base w.state t w.cache) (λ v g n t. refl)
call-exact base w session top seen tables within is exact le asks =
    plain-exact base w session top tables (answer base w.state top tables).reply within is exact asks (refl, refl) tt (λ r k place. refl)
    (λ t. keeps-top base w.state t w.cache) (λ v g n t. refl)
call-exact base w session (tile k place) seen tables within is exact le asks =
    tiles-exact base w session k place tables (not (has_stack (document_now base w.state) k))
    (not (is_on_grid (document_now base w.state).width (document_now base w.state).height place)) within is exact asks refl
call-exact base w session (peek stack at) seen tables within is exact le asks =
    peeks-exact base w session stack at seen tables (not (has_stack (document_now base w.state) stack))
    (not (is_on_grid (document_now base w.state).width (document_now base w.state).height at)) within is exact asks le refl

submit-exact : (base : Document) (w : World) (session : ℕ) (call : Call) (seen : ℕ) (tables : List (List ℕ)) → IsDocument base
    → IsRight base w → SlotsAreExact base w → seen ≤ latest w.state → AsksCall (asked call tables)
    → SlotsAreExact base (submit base w session call seen tables).world
submit-exact base w session call seen tables within is exact le asks =
    go (free_entries w == 0) (call-exact base w session call seen tables within is exact le asks)
  where
    full : Outcome
    full = record { reply = history_full; world = w }

    done : Outcome
    done = record {
      reply = reply_to base w call seen tables;
      world =
          with_call base w session call tables (reply_to base w call seen tables);
    }

    go : (b : Bool) → SlotsAreExact base (with_call base w session call tables (reply_to base w call seen tables))
        → SlotsAreExact base (cond b full done).world
    go true next = exact
    go false next = next

-- ---- jobs and saves

take-exact : (base : Document) (w : World) → SlotsAreExact base w → SlotsAreExact base (take_job w)
take-exact base w exact = go (next_place w.cache)
  where
    go : (o : Option Place) → SlotsAreExact base
        (record w { cache = with_last o w.cache; jobs = add_job o (latest w.state) w.jobs })
    go None = exact
    go (Some p) = exact

starts-save-exact : (base : Document) (w : World) (session : ℕ) (out : Option Saving) → IsDocument base → IsRight base w
    → SlotsAreExact base w → w.state.out ≡ out
    → SlotsAreExact base (start_where base w session out)
starts-save-exact base w session (Some out) within is exact e = exact
starts-save-exact base w session None within is exact e =
    go (nat_lt (free_entries w) 2) (stays-exact base w entry (next-entry base w entry within is exact tt (refl, e, refl) tt) refl
    (λ stack at. refl))
  where
    entry : Entry
    entry = record { session = session; index = next_index w.entries session; kind = starts; reply = saved (latest w.state) }

    go : (b : Bool) → SlotsAreExact base (save_starts base w session) → SlotsAreExact base (cond b w (save_starts base w session))
    go true next = exact
    go false next = next

ends-save-exact : (base : Document) (w : World) (how : SaveEnd) (out : Option Saving) → IsDocument base → IsRight base w
    → SlotsAreExact base w → w.state.out ≡ out
    → SlotsAreExact base (end_where base w how out)
ends-save-exact base w how None within is exact e = exact
ends-save-exact base w Done (Some out) within is exact e =
    let entry : Entry = record { session = out.session; index = out.index; kind = ends; reply = saved out.version } in
    stays-exact base w entry (next-entry base w entry within is exact tt (may-end base w out Done e) tt) refl (λ stack at. refl)
ends-save-exact base w Fault (Some out) within is exact e =
    let entry : Entry = record { session = out.session; index = out.index; kind = ends; reply = save_fault out.version } in
    stays-exact base w entry (next-entry base w entry within is exact tt (may-end base w out Fault e) tt) refl (λ stack at. refl)
ends-save-exact base w Memory (Some out) within is exact e =
    let entry : Entry = record { session = out.session; index = out.index; kind = ends; reply = save_memory out.version } in
    stays-exact base w entry (next-entry base w entry within is exact tt (may-end base w out Memory e) tt) refl (λ stack at. refl)

pub stays-so : (base : Document) → IsDocument base → StaysExact base
stays-so base within w (submits session call seen tables) is exact may brings =
    submit-exact base w session call seen tables within is exact may.0 (may.1, may.2)
stays-so base within w takes is exact may brings = take-exact base w exact
stays-so base within w (finishes number) is exact may brings = absurd brings
stays-so base within w (begins_save session) is exact may brings = starts-save-exact base w session w.state.out within is exact refl
stays-so base within w (ends_save session how) is exact may brings = ends-save-exact base w how w.state.out within is exact refl

-- ---- what a peek answers

-- the slot of a tile that is there
there-slot : (base : Document) (w : World) (stack : ℕ) (at : TileAt) → IsRight base w
    → has_stack (document_now base w.state) stack ≡ true
    → is_on_grid base.width base.height at ≡ true → is_some (slot_of w.cache stack at) ≡ true
there-slot base w stack at is has on = go (slots_of w.cache stack) refl (is.stacks stack ∙ has)
  where
    go : (o : Option Slots) → slots_of w.cache stack ≡ o → is_some (slots_of w.cache stack) ≡ true
        → is_some (slot_of w.cache stack at) ≡ true
    go None p some = absurd (true≢false (sym some ∙ ap is_some p))
    go (Some slots) p some =
        ap (λ o. is_some (option_and_then (λ k. slot_at k at) o)) p
        ∙ slot-there base.width base.height slots at
        (canvas-found base.width base.height w.cache.held stack slots is.slots.of_canvas p) on

slot-answers : (base : Document) (w : World) (stack : ℕ) (at : TileAt) → IsRight base w → SlotsAreExact base w
    → is_some (slot_of w.cache stack at) ≡ true
    → peek_reply (cache.kept w.cache stack at (latest w.state)) (latest w.state)
    ≡ kept_peek (history.kept base w.entries stack at) (latest w.state)
slot-answers base w stack at is exact some = go (slot_of w.cache stack at) refl some
  where
    as-slot : (picture : Option (List ℕ)) (version seen : ℕ)
        → peek_reply (shown_as version picture) seen ≡ slot_peek picture version seen
    as-slot None version seen = refl
    as-slot (Some picture) version seen = refl

    go : (o : Option Slot) → slot_of w.cache stack at ≡ o → is_some o ≡ true
        → peek_reply (cache.kept w.cache stack at (latest w.state)) (latest w.state)
        ≡ kept_peek (history.kept base w.entries stack at) (latest w.state)
    go None p t = absurd (true≢false (sym t))
    go (Some slot) p t =
        let P : ℕ → Type 0 = λ n. slot_peek slot.picture (version_kept n slot.good_to slot.marked) n
        ≡ kept_peek (history.kept base w.entries stack at) n in
        ap (λ o. peek_reply (option_and_then (shown_by (latest w.state)) o) (latest w.state)) p
        ∙ (as-slot slot.picture (version_kept (latest w.state) slot.good_to slot.marked) (latest w.state)
        ∙ subst P (ap latest (sym is.replayed))
        (exact-peek base w.entries stack at slot.picture slot.good_to slot.marked slot.marked_at (exact stack at slot p)))

grid-now : (base : Document) (w : World) (at : TileAt) → IsRight base w
    → is_on_grid (document_now base w.state).width (document_now base w.state).height at ≡ is_on_grid base.width base.height at
grid-now base w at is =
    let c = canvas-document base w.entries (latest w.state) in
    let d = ap (λ s. document_at base s (latest w.state)) is.replayed in
    (λ i. is_on_grid (d i).width (d i).height at) ∙ (λ i. is_on_grid (c.width i) (c.height i) at)

pub answers-so : (base : Document) → AnswersExactly base
answers-so base w stack at tables is exact =
    go (has_stack (document_now base w.state) stack)
    (is_on_grid (document_now base w.state).width (document_now base w.state).height at) refl refl
  where
    shown : Reply
    shown = peek_reply (cache.kept w.cache stack at (latest w.state)) (latest w.state)

    kept : Reply
    kept = kept_peek (history.kept base w.entries stack at) (latest w.state)

    go : (here on : Bool) → has_stack (document_now base w.state) stack ≡ here
        → is_on_grid (document_now base w.state).width (document_now base w.state).height at ≡ on
        → where_tile (cond (not here) (no_stack stack) (cond (not on) outside_tile (tile_of (latest w.state)))) shown
        ≡ where_tile (cond (not here) (no_stack stack) (cond (not on) outside_tile (tile_of (latest w.state)))) kept
    go false on p q = refl
    go true false p q = refl
    go true true p q = slot-answers base w stack at is exact (there-slot base w stack at is p (sym (grid-now base w at is) ∙ q))
