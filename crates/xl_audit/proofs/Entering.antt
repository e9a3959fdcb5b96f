-- A walk comes through one entry more.
use Rattle.std.proofs.Common.{◌≡◌, ℕ, ◌+◌, ◌<◌, Bool, true, false, cond, List, [], ◌∷◌, ◌++◌, length, refl, sym, ◌∙◌}
use Rattle.std.proofs.Common.{ap, subst, arith, length-append}
use Rattle.std.specs.Prelude.{Option, Some, None, slice_index, slice_set, IfSome}
use Rattle.std.proofs.lemmas.List.{length-set}
use Rattle.spec_document.specs.declared.TileAt.{TileAt}
use Rattle.spec_document.specs.Document.{Document}
use Rattle.spec_history.specs.declared.TheConstants.{MAX_ENTRIES}
use Rattle.spec_history.specs.Limited.{AsksCall}
use Rattle.spec_history.specs.Machine as machine
use Rattle.spec_history.specs.Machine.{Call, Reply, State, Saving, latest, document_at}
use Rattle.spec_history.specs.History.{Entry, asked, replay, is_changed, IsStep}
use Rattle.spec_history.specs.Kept.{PeekMeetsKept, shown_version}
use Rattle.spec_history.proofs.Growing.{AsksCall-last, replay-snoc, latest_of-snoc, document_of-append}
use Rattle.spec_history.proofs.Versions.{latest_of-legal}
use Rattle.spec_world.specs.World.{entries_owed}
use Rattle.spec_world.specs.Exact.{SlotsAreExact}
use Rattle.spec_world.specs.Events.{submits}
use Rattle.spec_world.proofs.Exact.{next-entry, stays-exact}
use Rattle.spec_world.proofs.StaysExact.{stays-so}
use Rattle.spec_audit.proofs.Going.{seen_set}
use Rattle.spec_standing.specs.Now.{Now, now_of, world_of, Stands}
use Rattle.spec_standing.proofs.GoesOn.{GoesOn, counted, out-call, submitted}
use Rattle.spec_standing.proofs.Pictures.{pictures-entry, is_right}
use Rattle.xl_judging.specs.Versions.{with_share, HasVersions}
use Rattle.xl_audit.specs.Walking.{HasCome, IsCounted}
use Rattle.xl_audit.specs.declared.walk.Walk.{Walk}
use Rattle.xl_judging.proofs.Sharing.{versions_step, versions_stay}

-- ---- the versions behind an entry

version_now : (base : Document) (es : List Entry) (now : Now) (made : List ℕ) → Stands base es now made
    → now.version ≡ latest (replay base es)
version_now base es now made stands = ap (λ (n : Now). n.version) stands.is_now

document_now : (base : Document) (es : List Entry) (now : Now) (made : List ℕ) → Stands base es now made
    → now.document ≡ document_at base (replay base es) (latest (replay base es))
document_now base es now made stands = ap (λ (n : Now). n.document) stands.is_now

pub latest_more : (base : Document) (es : List Entry) (e : Entry) (old new : Now) (made more : List ℕ) → Stands base es old made
    → Stands base (es ++ e ∷ []) new more
    → latest (replay base (es ++ e ∷ [])) ≡ latest (replay base es) + cond (is_changed e.reply) 1 0
latest_more base es e old new made more before after =
    let p = latest_of-legal base es before.legal in
    let q = latest_of-legal base (es ++ e ∷ []) after.legal in
    let step = latest_of-snoc es e in
    omega (arith, p, q, step)

versions_after : (base : Document) (es : List Entry) (e : Entry) (old new : Now) (made more : List ℕ) (wanted : List Bool)
    (shares : List (Option Document)) → Stands base es old made → Stands base (es ++ e ∷ []) new more
    → HasVersions base (replay base es) wanted shares
    → HasVersions base (replay base (es ++ e ∷ [])) wanted
    (cond (is_changed e.reply) (with_share wanted new.document shares) shares)
versions_after base es e old new made more wanted shares before after has =
    go (is_changed e.reply) (latest_more base es e old new made more before after)
  where
    go : (b : Bool) → latest (replay base (es ++ e ∷ [])) ≡ latest (replay base es) + cond b 1 0
        → HasVersions base (replay base (es ++ e ∷ [])) wanted (cond b (with_share wanted new.document shares) shares)
    go true next =
        versions_step base (replay base es) (replay base (es ++ e ∷ [])) wanted shares new.document has next
        (λ v le. document_of-append base es (e ∷ []) v le) (document_now base (es ++ e ∷ []) new more after)
    go false same =
        versions_stay base (replay base es) (replay base (es ++ e ∷ [])) wanted shares has (omega (arith, same))
        (λ v le. document_of-append base es (e ∷ []) v le)

-- ---- any entry that stands

-- what is kept exactly is shown apart
pub come : (base : Document) (es : List Entry) (e : Entry) (old new : Walk) → HasCome base es old → e.session < 8
    → Stands base (es ++ e ∷ []) new.standing new.made
    → SlotsAreExact base (world_of base (es ++ e ∷ []) new.standing.cache)
    → length new.made ≡ 8 → new.seen ≡ slice_set old.seen e.session new.standing.version
    → IfSome (replay base (es ++ e ∷ [])).out (λ out. new.out ≡ out.version)
    → new.versions.wanted.items ≡ old.versions.wanted.items
    → new.versions.shares.items
    ≡ cond (is_changed e.reply) (with_share old.versions.wanted.items new.standing.document old.versions.shares.items)
    old.versions.shares.items
    → HasCome base (es ++ e ∷ []) new
come base es e old new has eight stands exact made seen out wanted shares =
    let H : List Bool → List (Option Document) → Type 0 = λ x y. HasVersions base (replay base (es ++ e ∷ [])) x y in
    let versions = versions_after base es e old.standing new.standing old.made new.made old.versions.wanted.items
    old.versions.shares.items has.stands stands has.versions in
    let version = version_now base (es ++ e ∷ []) new.standing new.made stands in
    let long = length-set old.seen e.session new.standing.version in
    let old_long = has.eight_seen in
    record {
      stands = stands;
      exact = exact;
      seen = λ session here.
          ap (λ (xs : List ℕ). slice_index xs session) seen
          ∙ seen_set base es e old.seen new.standing.version stands.legal has.eight_seen eight version has.seen session here;
      out = out;
      versions = subst (λ x. H x new.versions.shares.items) (sym wanted) (subst (H old.versions.wanted.items) (sym shares) versions);
      eight_made = made;
      eight_seen = ap (λ (xs : List ℕ). length xs) seen ∙ omega (arith, long, old_long);
    }

-- ---- an entry that makes no version and shows no tile

quiet_exact : (base : Document) (es : List Entry) (e : Entry) (now : Now) (made : List ℕ) → Stands base es now made
    → SlotsAreExact base (world_of base es now.cache)
    → AsksCall e.kind → IsStep base (replay base es) es e → PeekMeetsKept base es e.kind e.reply → is_changed e.reply ≡ false
    → ((stack : ℕ) (at : TileAt) → shown_version e.kind e.reply stack at ≡ None)
    → SlotsAreExact base (world_of base (es ++ e ∷ []) now.cache)
quiet_exact base es e now made stands exact asks step peeks unchanged silent =
    let w = world_of base es now.cache in
    let next = next-entry base w e stands.within (is_right base es now made stands) exact asks step peeks in
    stays-exact base w e next unchanged silent

-- where nothing else than what is counted changes
pub come_quietly : (base : Document) (es : List Entry) (e : Entry) (old new : Walk) → HasCome base es old → e.session < 8
    → IsStep base (replay base es) es e → PeekMeetsKept base es e.kind e.reply → is_changed e.reply ≡ false
    → ((stack : ℕ) (at : TileAt) → shown_version e.kind e.reply stack at ≡ None)
    → Stands base (es ++ e ∷ []) old.standing new.made → new.standing ≡ old.standing
    → length new.made ≡ 8 → new.seen ≡ slice_set old.seen e.session old.standing.version
    → IfSome (replay base (es ++ e ∷ [])).out (λ out. new.out ≡ out.version)
    → new.versions.wanted.items ≡ old.versions.wanted.items → new.versions.shares.items ≡ old.versions.shares.items
    → HasCome base (es ++ e ∷ []) new
come_quietly base es e old new has eight step peeks unchanged silent stands same made seen out wanted shares =
    let asks = AsksCall-last es e stands.legal.calls in
    let exact = quiet_exact base es e old.standing old.made has.stands has.exact asks step peeks unchanged silent in
    let S : Now → Type 0 = λ n. Stands base (es ++ e ∷ []) n new.made in
    let X : Now → Type 0 = λ n. SlotsAreExact base (world_of base (es ++ e ∷ []) n.cache) in
    let kept : cond (is_changed e.reply) (with_share old.versions.wanted.items new.standing.document old.versions.shares.items)
    old.versions.shares.items ≡ old.versions.shares.items =
    ap (λ (b : Bool). cond b (with_share old.versions.wanted.items new.standing.document old.versions.shares.items)
    old.versions.shares.items) unchanged in
    come base es e old new has eight (subst S (sym same) stands) (subst X (sym same) exact) made
    (seen ∙ ap (λ (n : Now). slice_set old.seen e.session n.version) (sym same)) out wanted (shares ∙ sym kept)

-- ---- a peek

abbrev pub entry_peek : (session index stack : ℕ) → TileAt → Reply → Entry
entry_peek session index stack at reply =
    record { session = session; index = index; kind = asked (machine.peek stack at) []; reply = reply }

-- a peek that is allowed leaves what stands as it was
pub stands_peeked : (base : Document) (es : List Entry) (now : Now) (made : List ℕ) (session stack : ℕ) (at : TileAt) (reply : Reply)
    → Stands base es now made → length made ≡ 8 → session < 8
    → IsStep base (replay base es) es (entry_peek session (slice_index made session) stack at reply)
    → PeekMeetsKept base es (asked (machine.peek stack at) []) reply → is_changed reply ≡ false
    → length es + entries_owed (replay base es).out < MAX_ENTRIES
    → Stands base (es ++ entry_peek session (slice_index made session) stack at reply ∷ []) now
    (slice_set made session (slice_index made session + 1))
stands_peeked base es now made session stack at reply stands eight within step peeks unchanged room =
    let e = entry_peek session (slice_index made session) stack at reply in
    let more : length (es ++ e ∷ []) ≡ length es + 1 = length-append es (e ∷ []) in
    let owed : entries_owed (replay base (es ++ e ∷ [])).out ≡ entries_owed (replay base es).out =
    ap entries_owed (out-call base es session (slice_index made session) (machine.peek stack at) [] reply) in
    let groups = stands.groups in
    let pictures = pictures-entry base es now made e stands (tt, tt) step peeks unchanged (λ k place. refl) in
    record {
      within = stands.within;
      small = stands.small;
      legal = pictures.legal;
      few = omega (arith, more, room, owed);
      is_now = stands.is_now ∙ ap (λ (t : State). now_of base t now.cache) (sym (replay-snoc base es e));
      groups = omega (arith, more, groups);
      indices = counted made es e eight within refl stands.indices;
      pictures = pictures;
    }

-- ---- the save that is out

out_same : (base : Document) (es : List Entry) (e : Entry) (old new : ℕ) → (replay base (es ++ e ∷ [])).out ≡ (replay base es).out
    → IfSome (replay base es).out (λ out. old ≡ out.version) → new ≡ old
    → IfSome (replay base (es ++ e ∷ [])).out (λ out. new ≡ out.version)
out_same base es e old new same is kept =
    subst (λ (x : Option Saving). IfSome x (λ out. new ≡ out.version)) (sym same)
    (go (replay base es).out is)
  where
    go : (x : Option Saving) → IfSome x (λ out. old ≡ out.version) → IfSome x (λ out. new ≡ out.version)
    go None is = tt
    go (Some out) is = kept ∙ is

pub out_called : (base : Document) (es : List Entry) (session index : ℕ) (call : Call) (tables : List (List ℕ)) (reply : Reply)
    (old new : ℕ) → IfSome (replay base es).out (λ out. old ≡ out.version) → new ≡ old
    → IfSome (replay base (es ++ record { session = session; index = index; kind = asked call tables; reply = reply } ∷ [])).out
    (λ out. new ≡ out.version)
out_called base es session index call tables reply old new is kept =
    out_same base es (record { session = session; index = index; kind = asked call tables; reply = reply }) old new
    (out-call base es session index call tables reply) is kept

-- ---- a call other than a peek

pub come_called : (base : Document) (es : List Entry) (old new : Walk) (session : ℕ) (c : Call) (tables : List (List ℕ)) (reply : Reply)
    → HasCome base es old → session < 8 → length es + entries_owed (replay base es).out < MAX_ENTRIES
    → GoesOn base es old.standing old.made session c old.standing.version tables reply new.standing
    → IsCounted old new session (is_changed reply)
    → HasCome base (es
    ++ record { session = session; index = slice_index old.made session; kind = asked c tables; reply = reply } ∷ []) new
come_called base es old new session c tables reply has eight room goes counts =
    let e : Entry = record { session = session; index = slice_index old.made session; kind = asked c tables; reply = reply } in
    let w = world_of base es old.standing.cache in
    let version = version_now base es old.standing old.made has.stands in
    let led = submitted base w session c old.standing.version tables reply (world_of base (es ++ e ∷ []) new.standing.cache) room
    goes.says goes.world in
    let asks = AsksCall-last es e goes.stands.legal.calls in
    let exact = subst (SlotsAreExact base) (sym led.1)
    (stays-so base has.stands.within w (submits session c old.standing.version tables)
    (is_right base es old.standing old.made has.stands) has.exact (omega (arith, version), asks.0, asks.1) tt) in
    let long = length-set old.made session (slice_index old.made session + 1) in
    let old_long = has.eight_made in
    come base es e old new has eight
    (subst (Stands base (es ++ e ∷ []) new.standing) (sym counts.made) goes.stands) exact
    (ap (λ (xs : List ℕ). length xs) counts.made ∙ omega (arith, long, old_long)) counts.seen
    (out_called base es session (slice_index old.made session) c tables reply old.out new.out has.out counts.out)
    counts.wanted counts.shares
