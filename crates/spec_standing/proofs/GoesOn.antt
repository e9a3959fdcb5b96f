-- A history goes on by a call that is built.
use Rattle.std.proofs.Common.{◌≡◌, ℕ, ◌+◌, ◌<◌, ◌≤◌, Bool, true, false, cond, not, List, [], ◌∷◌, ◌++◌, length, refl}
use Rattle.std.proofs.Common.{sym, ◌∙◌, ap, subst, arith, length-append, add-zero, inl, inr, eq-eqb}
use Rattle.std.specs.Prelude.{◌^◌, ◌==◌, ◌&&◌, slice_index, slice_set, Option, Some, None, IfSome}
use Rattle.std.specs.List.{AllByRecursion}
use Rattle.std.proofs.lemmas.Bool.Decides.{eqb_tells, nat_tests}
use Rattle.std.proofs.lemmas.List.{get_or-set_same, get_or-set_other}
use Rattle.std.proofs.lemmas.List.Sums.{count_by-le-length}
use Rattle.spec_document.specs.declared.TileAt.{TileAt}
use Rattle.spec_document.specs.Grid.{is_on_grid}
use Rattle.spec_document.specs.Picture.{project}
use Rattle.spec_document.specs.Document.{Document}
use Rattle.spec_document.specs.Limits.{AreBytes}
use Rattle.spec_edit.specs.Edit.{Edit}
use Rattle.spec_edit.specs.Apply.{At}
use Rattle.spec_cache.specs.Slots.{Shown}
use Rattle.spec_cache.specs.Cache.{IsCache, kept}
use Rattle.spec_history.specs.Machine as machine
use Rattle.spec_history.specs.Machine.{Call, Reply, latest, document_at, answer, has_stack}
use Rattle.spec_history.specs.History as history
use Rattle.spec_history.specs.History.{Entry, asked, replay, next_index, latest_of, document_of}
use Rattle.spec_history.specs.Calls.{IsCall}
use Rattle.spec_history.specs.declared.TheConstants.{MAX_ENTRIES}
use Rattle.spec_history.specs.Marks.{marks}
use Rattle.spec_history.proofs.Canvas.{canvas-document}
use Rattle.spec_history.proofs.Growing.{replay-snoc, next_index-snoc, out-answer}
use Rattle.spec_history.proofs.SinceMark.{last_of-le}
use Rattle.spec_history.proofs.Stacks.{chained-legal}
use Rattle.spec_history.proofs.Versions.{sound-legal, latest_of-legal}
use Rattle.spec_world.specs.World.{World, document_now, entries_owed, free_entries}
use Rattle.spec_world.specs.Events.{reply_to, cache_of, with_call, Outcome, submit}
use Rattle.spec_world.specs.Right.{IsPictureAt}
use Rattle.spec_world.specs.Standing.{IsStanding}
use Rattle.spec_world.proofs.AllRight.{always-sound}
use Rattle.spec_world.proofs.Submitted.{kept-picture, standing-submit}
use Rattle.spec_standing.specs.Change.{LeavesCacheBetween}
use Rattle.spec_standing.specs.Group.{HasGroupDamage}
use Rattle.spec_standing.specs.History.{History, Shows}
use Rattle.spec_standing.specs.Now.{Now, Gives, stays, response, now_of, with_tile, shown, ShowsTile, ShowsKept, ShowsNow}
use Rattle.spec_standing.specs.Now.{IsKeptNow, world_of, Stands}
use Rattle.spec_standing.proofs.Simulates.{IsReady, follows}
use Rattle.spec_standing.proofs.GroupNumbers.{groups-response}

-- one call more of a session, and none of the others
pub counted : (made : List ℕ) (entries : List Entry) (e : Entry)
    → length made ≡ 8 → e.session < 8 → history.is_end_kind e.kind ≡ false
    → ((s : ℕ) → s < 8 → slice_index made s ≡ next_index entries s)
    → (s : ℕ) → s < 8 → slice_index (slice_set made e.session (slice_index made e.session + 1)) s ≡ next_index (entries ++ e ∷ []) s
counted made entries e eight within kind before s here =
    let inside : e.session < length made = omega (arith, within, eight) in
    let n = next_index-snoc entries e s in
    let test : cond (e.session == s && not (history.is_end_kind e.kind)) 1 0 ≡ cond (e.session == s && true) 1 0 =
    ap (λ k. cond (e.session == s && not k) 1 0) kind in
    elim (eqb_tells e.session s) [
      | inl same ↦
          let one : cond (e.session == s && true) 1 0 ≡ 1 = ap (λ b. cond (b && true) 1 0) same.0 in
          let at : slice_index (slice_set made e.session (slice_index made e.session + 1)) e.session
          ≡ slice_index made e.session + 1 =
          get_or-set_same made e.session (slice_index made e.session + 1) 0 inside in
          ap (λ i. slice_index (slice_set made e.session (slice_index made e.session + 1)) i) (sym same.1)
          ∙ (at ∙ (ap (λ i. slice_index made i + 1) same.1
          ∙ (ap (λ i. i + 1) (before s here) ∙ sym (n ∙ ap (λ i. next_index entries s + i) (test ∙ one)))))
      | inr other ↦
          let none : cond (e.session == s && true) 1 0 ≡ 0 = ap (λ b. cond (b && true) 1 0) other.0 in
          let at : slice_index (slice_set made e.session (slice_index made e.session + 1)) s ≡ slice_index made s =
          get_or-set_other made e.session s (slice_index made e.session + 1) 0 (λ p. other.1 (sym p)) in
          at ∙ (before s here ∙ sym (n ∙ (ap (λ i. next_index entries s + i) (test ∙ none) ∙ add-zero (next_index entries s))))
    ]

-- a call lets no save out or in
pub out-call : (base : Document) (entries : List Entry) (session index : ℕ) (call : Call) (tables : List (List ℕ)) (reply : Reply)
    → (replay base (entries ++ record { session = session; index = index; kind = asked call tables; reply = reply } ∷ [])).out
    ≡ (replay base entries).out
out-call base entries session index call tables reply =
    ap (λ t. t.out) (replay-snoc base entries
    (record { session = session; index = index; kind = asked call tables; reply = reply }))
    ∙ out-answer base (replay base entries) call tables

-- what stands is ready for a call
pub ready-stands : (base : Document) (entries : List Entry) (now : Now) (made : List ℕ) → Stands base entries now made
    → IsReady base (replay base entries) now.cache
ready-stands base entries now made stands =
    let s = replay base entries in
    let c = canvas-document base entries (latest s) in
    let slots = stands.pictures.slots in
    let sides : IsCache (document_now base s).width (document_now base s).height now.cache =
    subst (λ w. IsCache w (document_now base s).height now.cache) (sym c.width)
    (subst (λ h. IsCache base.width h now.cache) (sym c.height) slots) in
    record {
      sound = sound-legal base entries stands.legal;
      chained = chained-legal base entries stands.legal;
      canvas = record { width = c.width; height = c.height };
      kept = record { slots = sides; stacks = stands.pictures.stacks };
    }

-- the pictures that are kept are right for what stands
pub kept-stands : (base : Document) (entries : List Entry) (now : Now) (made : List ℕ) → Stands base entries now made
    → IsKeptNow now
kept-stands base entries now made stands =
    let s = replay base entries in
    let ready = ready-stands base entries now made stands in
    let each = stands.pictures.each in
    subst IsKeptNow (sym stands.is_now) (record {
      of = ready.kept;
      clean = λ stack at slot found. (each stack at slot found).clean;
      marks = λ stack at slot found. subst (λ n. n ≤ latest s) (sym (each stack at slot found).mark)
          (last_of-le (marks base s stack at) (latest s));
    })

-- what a call leaves
pub record GoesOn (base : Document) (entries : List Entry) (now : Now) (made : List ℕ) (session : ℕ) (call : Call) (seen : ℕ)
    (tables : List (List ℕ)) (reply : Reply) (new : Now) : Type 0 where
  pub stands : Stands base (entries
      ++ record { session = session; index = slice_index made session; kind = asked call tables; reply = reply } ∷ []) new
      (slice_set made session (slice_index made session + 1))
  pub says : reply ≡ reply_to base (world_of base entries now.cache) call seen tables
  pub world : world_of base (entries
      ++ record { session = session; index = slice_index made session; kind = asked call tables; reply = reply } ∷ []) new.cache
      ≡ with_call base (world_of base entries now.cache) session call tables reply

-- where there is room for an entry, some are free
some-free : (base : Document) (w : World) → length w.entries + entries_owed w.state.out < MAX_ENTRIES
    → (free_entries w == 0) ≡ false
some-free base w few = let room : 0 < free_entries w = omega (arith, few) in grind (arith, nat_tests, room)

module _ (between : (base old new : Document)
    → LeavesCacheBetween base old new) (along : (old : At) (edits : List Edit) (tables : List (List ℕ))
    → HasGroupDamage old edits tables) where
  pub goes_on : (base : Document) (entries : List Entry) (now new : Now) (made : List ℕ) (session : ℕ) (call : Call) (seen : ℕ)
      (tables : List (List ℕ)) (reply : Reply)
      → Stands base entries now made → length made ≡ 8 → session < 8 → seen ≤ latest (replay base entries)
      → length entries + entries_owed (replay base entries).out < MAX_ENTRIES → IsCall call
      → AllByRecursion AreBytes tables → Gives (response now call seen tables) reply new
      → GoesOn base entries now made session call seen tables reply new
  goes_on base entries now new made session call seen tables reply stands eight within seen_le few is_call bytes gives =
      let s = replay base entries in
      let w = world_of base entries now.cache in
      let t = (answer base s call tables).state in
      let e : Entry = record { session = session; index = slice_index made session; kind = asked call tables; reply = reply } in
      let goes = follows between along base w call seen tables (ready-stands base entries now made stands) in
      let same : response now call seen tables ≡ response (now_of base s now.cache) call seen tables =
      ap (λ n. response n call seen tables) stands.is_now in
      let says : reply ≡ reply_to base w call seen tables = gives.0 ∙ (ap (λ t. t.reply) same ∙ goes.says) in
      let after : new ≡ now_of base t (cache_of base s t call (reply_to base w call seen tables) now.cache) = gives.1
      ∙ (ap (λ t. t.now) same ∙ goes.stands) in
      let cache : new.cache ≡ cache_of base s t call reply now.cache = ap (λ n. n.cache) after
      ∙ ap (λ r. cache_of base s t call r now.cache) (sym says) in
      let index : slice_index made session ≡ next_index entries session = stands.indices session within in
      let more : length (entries ++ e ∷ []) ≡ length entries + 1 = length-append entries (e ∷ []) in
      let owed : entries_owed (replay base (entries ++ e ∷ [])).out ≡ entries_owed s.out =
      ap entries_owed (out-call base entries session (slice_index made session) call tables reply) in
      let groups = groups-response now call seen tables in
      let old_groups = stands.groups in
      let taken : new.next_group ≡ (response now call seen tables).now.next_group = ap (λ n. n.next_group) gives.1 in
      let world : world_of base (entries ++ e ∷ []) new.cache ≡ with_call base w session call tables reply =
      (λ i. record { entries = entries ++ e ∷ []; state = replay-snoc base entries e i; cache = cache i; jobs = [] })
      ∙ (λ i. record {
        entries = entries
            ++ record { session = session; index = index i; kind = asked call tables; reply = reply } ∷ [];
        state = t;
        cache =
            cache_of base s t call reply now.cache;
        jobs = [];
      }) in
      let full : Outcome = record { reply = machine.history_full; world = w } in
      let done : Outcome = record {
        reply = reply_to base w call seen tables;
        world =
            with_call base w session call tables (reply_to base w call seen tables);
      } in
      let submitted : (submit base w session call seen tables).world ≡ world_of base (entries ++ e ∷ []) new.cache =
      ap (λ b. (cond b full done).world) (some-free base w few)
      ∙ (ap (with_call base w session call tables) (sym says) ∙ sym world) in
      let pictures = subst (IsStanding base) submitted
      (standing-submit base w session call seen tables stands.pictures (always-sound base stands.within) seen_le (is_call, bytes)) in
      record {
        stands = record {
          within = stands.within;
          small = stands.small;
          legal = pictures.legal;
          few = omega (arith, more, few, owed);
          is_now = after ∙ (ap (now_of base t) (sym (ap (λ n. n.cache) after))
              ∙ ap (λ x. now_of base x new.cache) (sym (replay-snoc base entries e)));
          groups = omega arith;
          indices = counted made entries e eight within refl stands.indices;
          pictures = pictures;
        };
        says = says;
        world = world;
      }

-- where there was room, the world after the call is the one that the call leads to
pub submitted : (base : Document) (w : World) (session : ℕ) (call : Call) (seen : ℕ) (tables : List (List ℕ)) (reply : Reply)
    (new : World)
    → length w.entries + entries_owed w.state.out < MAX_ENTRIES → reply ≡ reply_to base w call seen tables
    → new ≡ with_call base w session call tables reply
    → (reply ≡ (submit base w session call seen tables).reply) × (new ≡ (submit base w session call seen tables).world)
submitted base w session call seen tables reply new few says is =
    let full : Outcome = record { reply = machine.history_full; world = w } in
    let done : Outcome = record {
      reply = reply_to base w call seen tables;
      world =
          with_call base w session call tables (reply_to base w call seen tables);
    } in
    let free = some-free base w few in (
      says ∙ sym (ap (λ b. (cond b full done).reply) free),
      is ∙ (ap (with_call base w session call tables) says ∙ sym (ap (λ b. (cond b full done).world) free)),
    )

-- where there was none, it stays
pub refused-full : (base : Document) (w : World) (session : ℕ) (call : Call) (seen : ℕ) (tables : List (List ℕ))
    → MAX_ENTRIES ≤ length w.entries + entries_owed w.state.out
    → (machine.history_full ≡ (submit base w session call seen tables).reply) × (w ≡ (submit base w session call seen tables).world)
refused-full base w session call seen tables full_is =
    let full : Outcome = record { reply = machine.history_full; world = w } in
    let done : Outcome = record {
      reply = reply_to base w call seen tables;
      world =
          with_call base w session call tables (reply_to base w call seen tables);
    } in
    let none : free_entries w ≡ 0 = omega (arith, full_is) in
    let free : (free_entries w == 0) ≡ true = eq-eqb (free_entries w) 0 none in
    (sym (ap (λ b. (cond b full done).reply) free), sym (ap (λ b. (cond b full done).world) free))

-- a history stands with few versions and groups
pub few-versions : (base : Document) (entries : List Entry) (now : Now) (made : List ℕ) → Stands base entries now made
    → now.version ≤ 2 ^ 20
few-versions base entries now made stands =
    let v : now.version ≡ latest (replay base entries) = ap (λ n. n.version) stands.is_now in
    let l = latest_of-legal base entries stands.legal in
    let few = stands.few in
    omega (arith, v, l, few, count_by-le-length (λ e. history.is_changed e.reply) entries)

-- no session has made many calls
pub few_made : (base : Document) (entries : List Entry) (now : Now) (made : List ℕ) → Stands base entries now made → (session : ℕ)
    → session < 8 → slice_index made session ≤ 2 ^ 20
few_made base entries now made stands session here =
    let index = stands.indices session here in
    let few = stands.few in
    omega (arith, index, few, count_by-le-length (λ e. e.session == session && not (history.is_end_kind e.kind)) entries)

-- the last version and its document are those of the history
pub version_is : (base : Document) (entries : List Entry) (now : Now) (made : List ℕ) → Stands base entries now made
    → now.version ≡ latest_of entries
version_is base entries now made stands = ap (λ n. n.version) stands.is_now ∙ sym (latest_of-legal base entries stands.legal)

pub document_is : (base : Document) (entries : List Entry) (now : Now) (made : List ℕ) → Stands base entries now made
    → now.document ≡ document_of base entries (latest_of entries)
document_is base entries now made stands =
    ap (λ n. n.document) stands.is_now
    ∙ ap (document_at base (replay base entries)) (sym (latest_of-legal base entries stands.legal))

-- ---- the tile that is shown

is_version : (here there : Bool) (stack version v : ℕ) (old new : Now)
    → machine.tile_of v ≡ (cond here (stays old (machine.no_stack stack))
    (cond there (stays old machine.outside_tile) (record { reply = machine.tile_of version; now = new }))).reply → v ≡ version
is_version true there stack version v old new e = cc
is_version false true stack version v old new e = cc
is_version false false stack version v old new e = cc

shows-tile : (base : Document) (entries : List Entry) (now new : Now) (stack : ℕ) (at : TileAt) (reply : Reply) (bytes : List ℕ)
    → Gives (shown now stack at) reply new → new ≡ now_of base (replay base entries) new.cache
    → ShowsTile new.document stack at reply bytes
    → Shows (record { base = base; entries = entries }) (machine.tile stack at) reply bytes
shows-tile base entries now new stack at (machine.tile_of v) bytes gives is shows =
    let s = replay base entries in
    let d = now.document in
    let version : v ≡ now.version = is_version (not (has_stack d stack))
    (not (is_on_grid d.width d.height at)) stack now.version v now (with_tile now stack at) gives.0 in
    let same : new.version ≡ now.version = ap (λ n. n.version) gives.1
    ∙ tile-version (not (has_stack d stack)) (not (is_on_grid d.width d.height at)) in
    let last : v ≡ latest s = version ∙ (sym same ∙ ap (λ n. n.version) is) in
    let document : new.document ≡ document_of base entries v = ap (λ n. n.document) is
    ∙ ap (λ n. document_at base s n) (sym last) in
    shows ∙ ap (λ x. project x stack at) document
  where
    tile-version : (b c : Bool) → (cond b (stays now (machine.no_stack stack))
        (cond c (stays now machine.outside_tile)
        (record { reply = machine.tile_of now.version; now = with_tile now stack at }))).now.version ≡ now.version
    tile-version true c = refl
    tile-version false true = refl
    tile-version false false = refl
shows-tile base entries now new stack at reply bytes gives is shows = tt

shows-kept : (base : Document) (entries : List Entry) (new : Now) (stack : ℕ) (at : TileAt) (o : Option Shown) (reply : Reply)
    (bytes : List ℕ)
    → IfSome o (λ k. IsPictureAt base (replay base entries) stack at k.version k.picture)
    → ShowsKept o reply bytes → Shows (record { base = base; entries = entries }) (machine.peek stack at) reply bytes
shows-kept base entries new stack at (Some k) (machine.tile_of v) bytes picture shows =
    shows.1 ∙ (picture.is ∙ ap (λ n. project (document_of base entries n) stack at) (sym shows.0))
shows-kept base entries new stack at None (machine.tile_of v) bytes picture shows = absurd shows
shows-kept base entries new stack at o reply bytes picture shows = tt

pub shows : (base : Document) (entries : List Entry) (now new : Now) (made : List ℕ) (call : Call) (seen : ℕ)
    (tables : List (List ℕ)) (reply : Reply) (bytes : List ℕ)
    → Gives (response now call seen tables) reply new → Stands base entries new made
    → ShowsNow new call reply bytes → Shows (record { base = base; entries = entries }) call reply bytes
shows base entries now new made (machine.tile stack at) seen tables reply bytes gives stands here =
    shows-tile base entries now new stack at reply bytes gives stands.is_now here
shows base entries now new made (machine.edit guard edits) seen tables reply bytes gives stands here = tt
shows base entries now new made (machine.undo named) seen tables reply bytes gives stands here = tt
shows base entries now new made machine.redo seen tables reply bytes gives stands here = tt
shows base entries now new made (machine.peek stack at) seen tables reply bytes gives stands here =
    let w = world_of base entries new.cache in
    let picture = kept-picture base w stack at stands.pictures in
    let version : new.version ≡ latest (replay base entries) = ap (λ n. n.version) stands.is_now in
    shows-kept base entries new stack at (kept new.cache stack at new.version) reply bytes
    (subst (λ n. IfSome (kept new.cache stack at n) (λ k. IsPictureAt base (replay base entries) stack at k.version k.picture))
    (sym version) picture) here
shows base entries now new made machine.top seen tables reply bytes gives stands here = tt

-- a full history shows nothing
pub shows-full : (h : History) (call : Call) (bytes : List ℕ) → Shows h call machine.history_full bytes
shows-full h (machine.tile stack at) bytes = tt
shows-full h (machine.edit guard edits) bytes = tt
shows-full h (machine.undo named) bytes = tt
shows-full h machine.redo bytes = tt
shows-full h (machine.peek stack at) bytes = tt
shows-full h machine.top bytes = tt
