-- A call leaves a world that stands.
use Rattle.std.proofs.Common.{◌≡◌, ℕ, ◌+◌, ◌-◌, ◌≤◌, Bool, true, false, cond, not, ◌==◌, nat_lt, List, [], ◌∷◌, ◌++◌}
use Rattle.std.proofs.Common.{refl, sym, ◌∙◌, ap, subst, true≢false, arith}
use Rattle.std.specs.Prelude.{Option, Some, None, IfSome, IsSomeAnd, is_some, option_and_then}
use Rattle.std.specs.List.{list_all}
use Rattle.std.proofs.lemmas.Bool.{ltb-true}
use Rattle.spec_document.specs.declared.TileAt.{TileAt}
use Rattle.spec_document.specs.Rect.{count_from}
use Rattle.spec_document.specs.Grid.{is_on_grid}
use Rattle.spec_document.specs.Document.{Document}
use Rattle.spec_edit.specs.Edit.{Edit}
use Rattle.spec_cache.specs.Slots.{Slot, Slots, Shown, slot_at, shown_by}
use Rattle.spec_cache.specs.Cache as cache
use Rattle.spec_cache.specs.Cache.{Cache, slots_of, slot_of}
use Rattle.spec_cache.proofs.Found.{canvas-found, slot-there}
use Rattle.spec_history.specs.Machine.{Call, edit, undo, redo, tile, peek, top, Reply, changed, tile_of, stale}
use Rattle.spec_history.specs.Machine.{no_stack, outside_tile, history_full, State, latest, document_at, answer}
use Rattle.spec_history.specs.Machine.{has_stack, tile_reply}
use Rattle.spec_history.specs.History.{Entry, asked, next_index, after_entry, is_changed, IsStep, MayPeek, PeekAnswers}
use Rattle.spec_history.specs.Limited.{AsksCall}
use Rattle.spec_history.specs.Kept as history
use Rattle.spec_history.specs.Kept.{last_tile, shown_version, kept_in, MeetsKept, PeekMeetsKept}
use Rattle.spec_history.proofs.Canvas.{canvas-document}
use Rattle.spec_world.specs.World.{World, document_now, free_entries, cache_after}
use Rattle.spec_world.specs.Events.{peek_reply, where_tile, reply_to, cache_of, with_entry, with_call, Outcome, submit}
use Rattle.spec_world.specs.Right.{IsPictureAt}
use Rattle.spec_world.specs.RightSlot.{DamageIsSound, DamageIsAlwaysSound}
use Rattle.spec_world.proofs.SlotLaws.{all-there, shown-is, kept-shown}
use Rattle.spec_world.proofs.Entered.{Enters, enters}
use Rattle.spec_world.specs.Standing.{WasShown, IsStanding}
use Rattle.spec_world.proofs.Standing.{seen-bound, standing-entry}
use Rattle.spec_world.proofs.Filled.{slots-of-slot, standing-tile}
use Rattle.spec_world.proofs.Changed.{standing-version}

sound-after : (base : Document) (w : World) (e : Entry) → DamageIsAlwaysSound base
    → Enters base w.entries e w.state (after_entry base w.state e) → DamageIsSound base (after_entry base w.state e)
sound-after base w e sound enters = subst (DamageIsSound base) (sym enters.replayed) (sound (w.entries ++ e ∷ []))

-- ---- calls that are no tile and no peek

-- the cache stays where nothing changed, and follows the version else
abbrev pub Keeps : Document → (s t : State) → Call → Cache → Type 0
Keeps base s t call kept = (r : Reply) → is_changed r ≡ false → cache_of base s t call r kept ≡ kept

pub keeps-edit : (base : Document) (s t : State) (guard : Option ℕ) (es : List Edit) (kept : Cache)
    → Keeps base s t (edit guard es) kept
keeps-edit base s t guard es kept (changed v g n) e = absurd (true≢false e)
keeps-edit base s t guard es kept r e = refl

pub keeps-undo : (base : Document) (s t : State) (named : Option ℕ) (kept : Cache) → Keeps base s t (undo named) kept
keeps-undo base s t named kept (changed v g n) e = absurd (true≢false e)
keeps-undo base s t named kept r e = refl

pub keeps-redo : (base : Document) (s t : State) (kept : Cache) → Keeps base s t redo kept
keeps-redo base s t kept (changed v g n) e = absurd (true≢false e)
keeps-redo base s t kept r e = refl

pub keeps-top : (base : Document) (s t : State) (kept : Cache) → Keeps base s t top kept
keeps-top base s t kept (changed v g n) e = absurd (true≢false e)
keeps-top base s t kept r e = refl

pub keeps-peek : (base : Document) (s t : State) (stack : ℕ) (at : TileAt) (kept : Cache) → Keeps base s t (peek stack at) kept
keeps-peek base s t stack at kept (changed v g n) e = absurd (true≢false e)
keeps-peek base s t stack at kept r e = refl

abbrev pub entry_of : World → (session : ℕ) → Call → (tables : List (List ℕ)) → Reply → Entry
entry_of w session call tables reply =
    record { session = session; index = next_index w.entries session; kind = asked call tables; reply = reply }

-- with a reply that makes no version
standing-kept : (base : Document) (w : World) (session : ℕ) (call : Call) (tables : List (List ℕ)) (reply : Reply)
    → IsStanding base w → AsksCall (asked call tables)
    → IsStep base w.state w.entries (entry_of w session call tables reply) → PeekMeetsKept base w.entries (asked call tables) reply
    → is_changed reply ≡ false → ((stack : ℕ) (at : TileAt) → shown_version (asked call tables) reply stack at ≡ None)
    → cache_of base w.state (after_entry base w.state (entry_of w session call tables reply)) call reply w.cache ≡ w.cache
    → IsStanding base (with_call base w session call tables reply)
standing-kept base w session call tables reply is asks step peeks unchanged silent kept =
    let e = entry_of w session call tables reply in
    subst (λ c. IsStanding base (record (with_entry base w e) { cache = c })) (sym kept)
    (standing-entry base w e is (enters base w.entries e w.state is.legal is.replayed asks step peeks) unchanged silent)

-- with any reply of the machine
standing-plain : (base : Document) (w : World) (session : ℕ) (call : Call) (tables : List (List ℕ)) (reply : Reply)
    → IsStanding base w → DamageIsAlwaysSound base → AsksCall (asked call tables)
    → IsStep base w.state w.entries (entry_of w session call tables reply) → PeekMeetsKept base w.entries (asked call tables) reply
    → ((r : Reply) (stack : ℕ) (at : TileAt) → shown_version (asked call tables) r stack at ≡ None)
    → ((t : State) → Keeps base w.state t call w.cache)
    → ((v g n : ℕ) (t : State) → cache_of base w.state t call (changed v g n) w.cache ≡ cache_after base w.state t w.cache)
    → IsStanding base (with_call base w session call tables reply)
standing-plain base w session call tables (changed v g n) is sound asks step peeks silent keeps follows =
    let e = entry_of w session call tables (changed v g n) in
    let enter = enters base w.entries e w.state is.legal is.replayed asks step peeks in
    subst (λ c. IsStanding base (record (with_entry base w e) { cache = c })) (sym (follows v g n (after_entry base w.state e)))
    (standing-version base w e is enter (sound-after base w e sound enter) refl (λ stack at. silent (changed v g n) stack at))
standing-plain base w session call tables reply is sound asks step peeks silent keeps follows =
    standing-kept base w session call tables reply is asks step peeks refl (λ stack at. silent reply stack at)
    (keeps (after_entry base w.state (entry_of w session call tables reply)) reply refl)

-- ---- a tile

canvas-grid : (base : Document) (w : World) (at : TileAt) → IsStanding base w
    → is_on_grid (document_now base w.state).width (document_now base w.state).height at ≡ is_on_grid base.width base.height at
canvas-grid base w at is =
    let c = canvas-document base w.entries (latest w.state) in
    let d = ap (λ s. document_at base s (latest w.state)) is.replayed in
    (λ i. is_on_grid (d i).width (d i).height at) ∙ (λ i. is_on_grid (c.width i) (c.height i) at)

standing-tiles : (base : Document) (w : World) (session k : ℕ) (place : TileAt) (tables : List (List ℕ)) (here on : Bool)
    → IsStanding base w → AsksCall (asked (tile k place) tables)
    → not (has_stack (document_now base w.state) k) ≡ here
    → not (is_on_grid (document_now base w.state).width (document_now base w.state).height place) ≡ on
    → tile_reply (document_now base w.state) k place (tile_of (latest w.state))
    ≡ cond here (no_stack k) (cond on outside_tile (tile_of (latest w.state)))
    → IsStanding base (with_call base w session (tile k place) tables
    (cond here (no_stack k) (cond on outside_tile (tile_of (latest w.state)))))
standing-tiles base w session k place tables true on is asks p q e =
    standing-kept base w session (tile k place) tables (no_stack k) is asks (refl, sym e) tt refl (λ stack at. refl) refl
standing-tiles base w session k place tables false true is asks p q e =
    standing-kept base w session (tile k place) tables outside_tile is asks (refl, sym e) tt refl (λ stack at. refl) refl
standing-tiles base w session k place tables false false is asks p q e =
    let enter = enters base w.entries
    (entry_of w session (tile k place) tables (tile_of (latest w.state))) w.state is.legal is.replayed asks (refl, sym e) tt in
    standing-tile base w session (next_index w.entries session) k place tables is (sym (canvas-grid base w place is)
    ∙ not-false (is_on_grid (document_now base w.state).width (document_now base w.state).height place) q) enter
  where
    not-false : (b : Bool) → not b ≡ false → b ≡ true
    not-false true e = refl
    not-false false e = absurd (true≢false e)

-- ---- a peek

-- what is kept of a tile by the history is kept by its slot
slot-kept : (base : Document) (w : World) (stack : ℕ) (at : TileAt) → IsStanding base w
    → IfSome (kept_in base w.state stack at (last_tile stack at w.entries)) (λ k. is_some (slot_of w.cache stack at) ≡ true)
slot-kept base w stack at is = go (last_tile stack at w.entries) (is.seen stack at)
  where
    s : State
    s = w.state

    there : (o : Option Slots) → slots_of w.cache stack ≡ o → is_some o ≡ true → is_on_grid base.width base.height at ≡ true
        → is_some (slot_of w.cache stack at) ≡ true
    there None p e on = absurd (true≢false (sym e))
    there (Some slots) p e on =
        ap (λ o. is_some (option_and_then (λ k. slot_at k at) o)) p
        ∙ slot-there base.width base.height slots at
        (canvas-found base.width base.height w.cache.held stack slots is.slots.of_canvas p) on

    always : (a : ℕ) (b : Bool) (least : ℕ)
        → list_all (λ v. has_stack (document_at base s v) stack) (count_from a (latest s + 1 - a)) ≡ b → WasShown base s at a
        → IfSome (cond b (Some least) None) (λ k. is_some (slot_of w.cache stack at) ≡ true)
    always a false least e shown = tt
    always a true least e shown =
        let within = shown.there in
        let has = all-there (λ v. has_stack (document_at base s v) stack) a (latest s + 1 - a) e (latest s) within (omega arith) in
        there (slots_of w.cache stack) refl (is.stacks stack ∙ has) shown.on_grid

    go : (last : Option ℕ) → IfSome last (WasShown base s at)
        → IfSome (kept_in base s stack at last) (λ k. is_some (slot_of w.cache stack at) ≡ true)
    go None h = tt
    go (Some a) h = always a (list_all (λ v. has_stack (document_at base s v) stack) (count_from a (latest s + 1 - a))) _ refl h

-- and no older
pub keeps-enough : (base : Document) (w : World) (stack : ℕ) (at : TileAt) → IsStanding base w
    → IfSome (history.kept base w.entries stack at)
    (λ least. IsSomeAnd (cache.kept w.cache stack at (latest w.state)) (λ k. least ≤ k.version))
keeps-enough base w stack at is =
    subst (λ s. IfSome (kept_in base s stack at (last_tile stack at w.entries))
    (λ least. IsSomeAnd (cache.kept w.cache stack at (latest w.state)) (λ k. least ≤ k.version))) is.replayed
    (go (slot_of w.cache stack at) refl)
  where
    vacuous : (o : Option ℕ) (P : ℕ → Type 0) → IfSome o (λ k. false ≡ true) → IfSome o P
    vacuous None P h = tt
    vacuous (Some k) P h = absurd (true≢false (sym h))

    go : (o : Option Slot) → slot_of w.cache stack at ≡ o
        → IfSome (kept_in base w.state stack at (last_tile stack at w.entries))
        (λ least. IsSomeAnd (option_and_then (shown_by (latest w.state)) o) (λ k. least ≤ k.version))
    go (Some slot) p = kept-shown base w.state stack at (last_tile stack at w.entries) slot
        (seen-bound base w.state at (last_tile stack at w.entries) (is.seen stack at)) (is.each stack at slot p)
    go None p = vacuous (kept_in base w.state stack at (last_tile stack at w.entries))
        (λ least. IsSomeAnd (option_and_then (shown_by (latest w.state)) None) (λ k. least ≤ k.version))
        (subst (λ o. IfSome (kept_in base w.state stack at (last_tile stack at w.entries)) (λ k. is_some o ≡ true)) p
        (slot-kept base w stack at is))

-- what a slot keeps is the picture of its version
pub kept-picture : (base : Document) (w : World) (stack : ℕ) (at : TileAt) → IsStanding base w
    → IfSome (cache.kept w.cache stack at (latest w.state)) (λ k. IsPictureAt base w.state stack at k.version k.picture)
kept-picture base w stack at is = go (slot_of w.cache stack at) refl
  where
    go : (o : Option Slot) → slot_of w.cache stack at ≡ o
        → IfSome (option_and_then (shown_by (latest w.state)) o) (λ k. IsPictureAt base w.state stack at k.version k.picture)
    go None p = tt
    go (Some slot) p =
        shown-is base w.state stack at (last_tile stack at w.entries) slot (sym (is.stacks stack)
        ∙ slots-of-slot w.cache stack at slot p) (is.each stack at slot p)

-- such a reply to a peek is one that the machine allows, and shows what is kept
pub peek-allowed : (base : Document) (s : State) (stack : ℕ) (at : TileAt) (kept : Option Shown) (least : Option ℕ) (seen : ℕ)
    → seen ≤ latest s
    → IfSome kept (λ k. IsPictureAt base s stack at k.version k.picture) → IfSome least (λ n. IsSomeAnd kept (λ k. n ≤ k.version))
    → MayPeek base s stack (peek_reply kept seen) × MeetsKept least (peek_reply kept seen)
    × (is_changed (peek_reply kept seen) ≡ false)
peek-allowed base s stack at None None seen le picture enough = (le, tt, refl)
peek-allowed base s stack at None (Some n) seen le picture enough = absurd enough
peek-allowed base s stack at (Some k) least seen le picture enough = go (nat_lt k.version seen) refl
  where
    meets-stale : (o : Option ℕ) → IfSome o (λ n. n ≤ k.version) → MeetsKept o (stale (Some k.version) seen)
    meets-stale None h = tt
    meets-stale (Some n) h = h

    meets-tile : (o : Option ℕ) → IfSome o (λ n. n ≤ k.version) → MeetsKept o (tile_of k.version)
    meets-tile None h = tt
    meets-tile (Some n) h = h

    go : (b : Bool) → nat_lt k.version seen ≡ b
        → MayPeek base s stack (cond b (stale (Some k.version) seen) (tile_of k.version))
        × MeetsKept least (cond b (stale (Some k.version) seen) (tile_of k.version))
        × (is_changed (cond b (stale (Some k.version) seen) (tile_of k.version)) ≡ false)
    go true e = ((le, ltb-true k.version seen e), meets-stale least enough, refl)
    go false e = ((picture.there, picture.has), meets-tile least enough, refl)

pub meets-plain : (o : Option ℕ) (node : ℕ) → MeetsKept o (no_stack node) × MeetsKept o outside_tile
meets-plain None node = (tt, tt)
meets-plain (Some k) node = (tt, tt)

standing-peeks : (base : Document) (w : World) (session stack : ℕ) (at : TileAt) (seen : ℕ) (tables : List (List ℕ))
    (here on : Bool) → IsStanding base w → AsksCall (asked (peek stack at) tables) → seen ≤ latest w.state
    → tile_reply (document_now base w.state) stack at (tile_of (latest w.state))
    ≡ cond here (no_stack stack) (cond on outside_tile (tile_of (latest w.state)))
    → IsStanding base (with_call base w session (peek stack at) tables
    (where_tile (cond here (no_stack stack) (cond on outside_tile (tile_of (latest w.state))))
    (peek_reply (cache.kept w.cache stack at (latest w.state)) seen)))
standing-peeks base w session stack at seen tables true on is asks le e =
    standing-kept base w session (peek stack at) tables (no_stack stack) is asks (
      refl,
      subst (λ r. PeekAnswers base w.state stack r (no_stack stack)) (sym e) refl,
    )
    (meets-plain (history.kept base w.entries stack at) stack).0 refl (λ k place. refl) refl
standing-peeks base w session stack at seen tables false true is asks le e =
    standing-kept base w session (peek stack at) tables outside_tile is asks (
      refl,
      subst (λ r. PeekAnswers base w.state stack r outside_tile) (sym e) refl,
    )
    (meets-plain (history.kept base w.entries stack at) stack).1 refl (λ k place. refl) refl
standing-peeks base w session stack at seen tables false false is asks le e =
    let kept = cache.kept w.cache stack at (latest w.state) in
    let allowed = peek-allowed base w.state stack at kept (history.kept base w.entries stack at) seen le
    (kept-picture base w stack at is) (keeps-enough base w stack at is) in
    let reply = peek_reply kept seen in
    standing-kept base w session (peek stack at) tables reply is asks (
      refl,
      subst (λ r. PeekAnswers base w.state stack r reply) (sym e) allowed.0,
    )
    allowed.1 allowed.2 (λ k place. refl)
    (keeps-peek base w.state (after_entry base w.state (entry_of w session (peek stack at) tables reply)) stack at w.cache reply
    allowed.2)

-- ---- any call

standing-call : (base : Document) (w : World) (session : ℕ) (call : Call) (seen : ℕ) (tables : List (List ℕ)) → IsStanding base w
    → DamageIsAlwaysSound base → seen ≤ latest w.state → AsksCall (asked call tables)
    → IsStanding base (with_call base w session call tables (reply_to base w call seen tables))
standing-call base w session (edit guard es) seen tables is sound le asks =
    standing-plain base w session (edit guard es) tables (answer base w.state (edit guard es) tables).reply is sound asks (
      refl,
      refl,
    ) tt (λ r k place. refl)
    (λ t. keeps-edit base w.state t guard es w.cache) (λ v g n t. refl)
standing-call base w session (undo named) seen tables is sound le asks =
    standing-plain base w session (undo named) tables (answer base w.state (undo named) tables).reply is sound asks (
      refl,
      refl,
    ) tt (λ r k place. refl)
    (λ t. keeps-undo base w.state t named w.cache) (λ v g n t. refl)
standing-call base w session redo seen tables is sound le asks =
    standing-plain base w session redo tables (answer base w.state redo tables).reply is sound asks (refl, refl) tt (λ r k place. refl)
    (λ t. keeps-redo base w.state t w.cache) (λ v g n t. refl)
standing-call base w session top seen tables is sound le asks =
    standing-plain base w session top tables (answer base w.state top tables).reply is sound asks (refl, refl) tt (λ r k place. refl)
    (λ t. keeps-top base w.state t w.cache) (λ v g n t. refl)
standing-call base w session (tile k place) seen tables is sound le asks =
    standing-tiles base w session k place tables (not (has_stack (document_now base w.state) k))
    (not (is_on_grid (document_now base w.state).width (document_now base w.state).height place)) is asks refl refl refl
standing-call base w session (peek stack at) seen tables is sound le asks =
    standing-peeks base w session stack at seen tables (not (has_stack (document_now base w.state) stack))
    (not (is_on_grid (document_now base w.state).width (document_now base w.state).height at)) is asks le refl

pub standing-submit : (base : Document) (w : World) (session : ℕ) (call : Call) (seen : ℕ) (tables : List (List ℕ))
    → IsStanding base w → DamageIsAlwaysSound base → seen ≤ latest w.state → AsksCall (asked call tables)
    → IsStanding base (submit base w session call seen tables).world
standing-submit base w session call seen tables is sound le asks =
    go (free_entries w == 0) (standing-call base w session call seen tables is sound le asks)
  where
    full : Outcome
    full = record { reply = history_full; world = w }

    done : Outcome
    done = record {
      reply = reply_to base w call seen tables;
      world =
          with_call base w session call tables (reply_to base w call seen tables);
    }

    go : (b : Bool) → IsStanding base (with_call base w session call tables (reply_to base w call seen tables))
        → IsStanding base (cond b full done).world
    go true next = is
    go false next = next
