-- The digest that is printed with a reply, and what is kept of a tile.
use Rattle.std.proofs.Common.{◌≡◌, ℕ, ◌≤◌, Bool, true, false, cond, not, List, [], ◌∷◌, ◌++◌, refl, sym, ◌∙◌, ap, subst, arith}
use Rattle.std.specs.Prelude.{◌==◌, ◌&&◌, Option, Some, None, Result, Ok, Err, option_map, option_and_then, is_some}
use Rattle.std.specs.Str.{bytes_eq}
use Rattle.std.proofs.Common.{eq-eqb}
use Rattle.std.proofs.lemmas.Bool.{eqb-true}
use Rattle.spec_document.specs.declared.TileAt.{TileAt}
use Rattle.spec_document.specs.Grid.{is_on_grid}
use Rattle.spec_document.specs.Document.{Document}
use Rattle.spec_document.specs.Picture.{project}
use Rattle.spec_edit.specs.Edit.{Edit}
use Rattle.spec_edit.specs.Apply.{At, Refused, apply_group}
use Rattle.spec_cache.specs.Slots.{Slot, Slots, shown_as, shown_by, slot_at}
use Rattle.spec_cache.specs.Cache as cache
use Rattle.spec_cache.specs.Cache.{slots_of, slot_of}
use Rattle.spec_cache.proofs.Found.{canvas-found, slot-there}
use Rattle.spec_history.specs.Machine as machine
use Rattle.spec_history.specs.Machine.{Call, Reply, State, Done, Answer, latest, document_at, names, stays, made, undo_answer, redo_answer, answer, has_stack, tile_reply, tile_of}
use Rattle.spec_history.specs.History.{Entry, asked, replay}
use Rattle.spec_history.specs.Kept as history
use Rattle.spec_history.specs.Slots.{version_kept, IsExact}
use Rattle.spec_history.proofs.Growing.{cond_both, document_of-append}
use Rattle.spec_text.specs.Text.{digest_of, shown_digest}
use Rattle.spec_world.specs.World.{World, document_now}
use Rattle.spec_world.specs.Right.{IsRight}
use Rattle.spec_world.specs.Exact.{SlotsAreExact}
use Rattle.spec_audit.specs.Deciding.{IsPlainCall}
use Rattle.spec_standing.specs.History.{Shows}
use Rattle.xl_judging.specs.Judging.{digest_with}

-- ---- bytes that are compared

pub same_bytes : (xs ys : List ℕ) → bytes_eq xs ys ≡ true → xs ≡ ys
same_bytes [] [] is = refl
same_bytes [] (y ∷ ys) is = let bad : false ≡ true = is in cc
same_bytes (x ∷ xs) [] is = let bad : false ≡ true = is in cc
same_bytes (x ∷ xs) (y ∷ ys) is =
    let p = parts (x == y) (bytes_eq xs ys) is in
    let first = eqb-true x y p.0 in
    let rest = same_bytes xs ys p.1 in
    λ i. first i ∷ rest i
  where
    parts : (a b : Bool) → (a && b) ≡ true → (a ≡ true) × (b ≡ true)
    parts true b is = (refl, is)
    parts false b is = let bad : false ≡ true = is in cc

pub bytes_same : (xs ys : List ℕ) → xs ≡ ys → bytes_eq xs ys ≡ true
bytes_same xs ys is = subst (λ (zs : List ℕ). bytes_eq xs zs ≡ true) is (self xs) where
  self : (xs : List ℕ) → bytes_eq xs xs ≡ true
  self [] = refl
  self (x ∷ xs) = let first = eq-eqb x x refl in let rest = self xs in rw (first, rest) refl

-- ---- a digest without a tile

made_none : (s : State) (old : At) (es : List Edit) (tables : List (List ℕ)) (r : Result At Refused) (bytes : List ℕ)
    → digest_with (made s old es tables r).reply bytes ≡ []
made_none s old es tables (Err r) bytes = refl
made_none s old es tables (Ok new) bytes = refl

undo_none : (s : State) (named : Option ℕ) (ds : List Done) (bytes : List ℕ) → digest_with (undo_answer s named ds).reply bytes ≡ []
undo_none s named [] bytes = refl
undo_none s named (d ∷ ds) bytes = cond_both (λ (a : Answer). digest_with a.reply bytes ≡ []) (names named d.group) _ _ refl refl

redo_none : (s : State) (ds : List Done) (bytes : List ℕ) → digest_with (redo_answer s ds).reply bytes ≡ []
redo_none s [] bytes = refl
redo_none s (d ∷ ds) bytes = refl

none_shown : (bytes : List ℕ) (reply given : Reply) → reply ≡ given → digest_with given bytes ≡ [] → digest_with reply bytes ≡ []
none_shown bytes reply given is none = ap (λ (r : Reply). digest_with r bytes) is ∙ none

-- ---- and that of a tile

abbrev Within : (last : ℕ) → Reply → Type 0
Within last (tile_of version) = version ≤ last
Within last r = Unit {0}

tile_within : (base : Document) (s : State) (stack : ℕ) (at : TileAt)
    → Within (latest s) (tile_reply (document_at base s (latest s)) stack at (tile_of (latest s)))
tile_within base s stack at =
    let d = document_at base s (latest s) in
    cond_both (Within (latest s)) (not (has_stack d stack)) (machine.no_stack stack)
    (cond (not (is_on_grid d.width d.height at)) machine.outside_tile (tile_of (latest s))) tt
    (cond_both (Within (latest s)) (not (is_on_grid d.width d.height at)) machine.outside_tile (tile_of (latest s)) tt (omega arith))

tile_digest : (base : Document) (es : List Entry) (e : Entry) (stack : ℕ) (at : TileAt) (tables : List (List ℕ)) (reply : Reply)
    (bytes : List ℕ) → Within (latest (replay base es)) reply
    → Shows (record { base = base; entries = es ++ e ∷ [] }) (machine.tile stack at) reply bytes
    → digest_with reply bytes ≡ shown_digest base es (asked (machine.tile stack at) tables) reply
tile_digest base es e stack at tables (tile_of version) bytes within shows =
    ap digest_of (shows ∙ ap (λ (d : Document). project d stack at) (document_of-append base es (e ∷ []) version within))
tile_digest base es e stack at tables reply bytes within shows = refl

-- the digest of the bytes in the desk is that of the tile that the call shows
pub called_digest : (base : Document) (es : List Entry) (e : Entry) (c : Call) (tables : List (List ℕ)) (reply : Reply) (bytes : List ℕ)
    → IsPlainCall c → reply ≡ (answer base (replay base es) c tables).reply
    → Shows (record { base = base; entries = es ++ e ∷ [] }) c reply bytes
    → digest_with reply bytes ≡ shown_digest base es (asked c tables) reply
called_digest base es e (machine.edit guard edits) tables reply bytes plain is shows =
    let s = replay base es in
    let old : At = record { document = document_at base s (latest s); next = s.next_id } in
    none_shown bytes reply _ is (cond_both (λ (a : Answer). digest_with a.reply bytes ≡ []) (names guard (latest s))
    (made s old edits tables (apply_group old edits tables)) (stays s (machine.moved (latest s)))
    (made_none s old edits tables (apply_group old edits tables) bytes) refl)
called_digest base es e (machine.undo named) tables reply bytes plain is shows =
    let s = replay base es in none_shown bytes reply _ is (undo_none s named s.undo bytes)
called_digest base es e machine.redo tables reply bytes plain is shows =
    let s = replay base es in none_shown bytes reply _ is (redo_none s s.redo bytes)
called_digest base es e (machine.tile stack at) tables reply bytes plain is shows =
    let s = replay base es in
    tile_digest base es e stack at tables reply bytes (subst (Within (latest s)) (sym is) (tile_within base s stack at)) shows
called_digest base es e (machine.peek stack at) tables reply bytes plain is shows = absurd plain
called_digest base es e machine.top tables reply bytes plain is shows = none_shown bytes reply _ is refl

-- ---- what is kept of a tile that is there

there_slot : (base : Document) (w : World) (stack : ℕ) (at : TileAt) → IsRight base w
    → has_stack (document_now base w.state) stack ≡ true → is_on_grid base.width base.height at ≡ true
    → is_some (slot_of w.cache stack at) ≡ true
there_slot base w stack at is has on = go (slots_of w.cache stack) refl (is.stacks stack ∙ has) where
  go : (o : Option Slots) → slots_of w.cache stack ≡ o → is_some (slots_of w.cache stack) ≡ true
      → is_some (slot_of w.cache stack at) ≡ true
  go None p some = let bad : false ≡ true = sym (ap is_some p) ∙ some in cc
  go (Some slots) p some =
      ap (λ o. is_some (option_and_then (λ k. slot_at k at) o)) p
      ∙ slot-there base.width base.height slots at
      (canvas-found base.width base.height w.cache.held stack slots is.slots.of_canvas p) on

-- it is just what has to be kept
pub kept_is : (base : Document) (w : World) (stack : ℕ) (at : TileAt) → IsRight base w → SlotsAreExact base w
    → has_stack (document_now base w.state) stack ≡ true → is_on_grid base.width base.height at ≡ true
    → option_map (λ k. k.version) (cache.kept w.cache stack at (latest w.state)) ≡ history.kept base w.entries stack at
kept_is base w stack at is exact has on = go (slot_of w.cache stack at) refl (there_slot base w stack at is has on) where
  same : (keeps : Option ℕ) (picture : Option (List ℕ)) (version : ℕ) → IsExact keeps picture version
      → option_map (λ k. k.version) (shown_as version picture) ≡ keeps
  same keeps None version is = sym is
  same keeps (Some picture) version is = sym is

  go : (o : Option Slot) → slot_of w.cache stack at ≡ o → is_some o ≡ true
      → option_map (λ k. k.version) (cache.kept w.cache stack at (latest w.state)) ≡ history.kept base w.entries stack at
  go None p some = let bad : false ≡ true = some in cc
  go (Some slot) p some =
      let K = history.kept base w.entries stack at in
      let P : ℕ → Type 0 = λ n. IsExact K slot.picture (version_kept n slot.good_to slot.marked) in
      let here : P (latest w.state) = subst P (ap latest (sym is.replayed)) (exact stack at slot p).exact in
      ap (λ o. option_map (λ k. k.version) (option_and_then (shown_by (latest w.state)) o)) p
      ∙ same K slot.picture (version_kept (latest w.state) slot.good_to slot.marked) here
