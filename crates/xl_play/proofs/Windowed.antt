-- The text of a script that is viewed, and how it grows by a call.
use Rattle.std.proofs.Common.{◌≡◌, ℕ, ◌+◌, Bool, true, false, cond, List, [], ◌∷◌, ◌++◌, None, Some, refl, ap, sym, ◌∙◌, subst, arith}
use Rattle.std.proofs.Common.{append-nil, flat_map}
use Rattle.std.specs.Prelude.{not, Option, IfOk, Result, String, string_bytes}
use Rattle.std.specs.declared.alloc.AllocError.{AllocError}
use Rattle.std.specs.declared.alloc.Global.{Global}
use Rattle.std.specs.List.{AllByRecursion}
use Rattle.std.proofs.lemmas.List.Concat.{flat_map-append, flat_map-cons}
use Rattle.spec_document.specs.declared.TileAt.{TileAt}
use Rattle.spec_document.specs.Grid.{is_on_grid}
use Rattle.spec_document.specs.Document.{Document}
use Rattle.spec_filters.specs.declared.FilterState.{FilterState}
use Rattle.spec_history.specs.Machine.{Call, edit, undo, redo, tile, peek, top, Reply, tile_of, no_stack, outside_tile, latest}
use Rattle.spec_history.specs.Machine.{has_stack, tile_reply}
use Rattle.spec_history.specs.History.{Entry, Kind, asked, starts, ends, replay, next_index, latest_of, document_of, is_changed}
use Rattle.spec_history.specs.Kept.{IsLegal}
use Rattle.spec_history.proofs.Growing.{document_of-append, latest_of-snoc}
use Rattle.spec_history.proofs.Versions.{latest_of-legal}
use Rattle.spec_text.specs.Printed.{line_text}
use Rattle.spec_text.specs.Text.{digest_of}
use Rattle.spec_text.proofs.Shown.{IsUpTo}
use Rattle.spec_view.specs.Script.{is_viewed_call}
use Rattle.spec_view.specs.Text.{IsViewed, view_digest, view_line, view_text}
use Rattle.spec_window.specs.declared.WindowRefused.TheVariants.{NoStack, OutsideTile}
use Rattle.spec_window.specs.Window.{window, window_refusal}
use Rattle.xl_history.specs.Editing.{Editing}
use Rattle.xl_history.specs.History.{History, version, document, Shows, with_call}
use Rattle.xl_play.specs.Playing.{ArePlayed, lines_in, shown_of}
use Rattle.xl_run.specs.Opening.{KeepsExactly}
use Rattle.xl_play.specs.Windows.{AreShown, IsLastTile, Place, asks_for, window_digest}
use Rattle.xl_play.proofs.Grown.{next_entry, played_none}
use Rattle.xl_play.proofs.Stays.{IsTold, each_told}
use Rattle.xl_play.proofs.Submitted.{AnswersBy, HasRoom, chest_printed, chest_taken}

-- ---- a tile that is shown

abbrev shown_version : Reply → ℕ
shown_version (tile_of v) = v
shown_version reply = 0

tile_says : (d : Document) (stack : ℕ) (at : TileAt) (n v : ℕ) → tile_reply d stack at (tile_of n) ≡ tile_of v
    → (v ≡ n) × (window_refusal d stack at ≡ None)
tile_says d stack at n v is = by (has_stack d stack) (is_on_grid d.width d.height at) refl refl is where
  by : (has grid : Bool) → has_stack d stack ≡ has → is_on_grid d.width d.height at ≡ grid
      → cond (not has) (no_stack stack) (cond (not grid) outside_tile (tile_of n)) ≡ tile_of v
      → (v ≡ n) × (window_refusal d stack at ≡ None)
  by true true h g e =
      (sym (ap shown_version e), λ i. cond (not (h i)) (Some (NoStack stack)) (cond (not (g i)) (Some OutsideTile) None))
  by true false h g e = cc
  by false grid h g e = cc

module _ {D : Type 0} where
  -- it is that of the last version
  pub last_tile : (chest : List (Option FilterState)) (old new : Editing D) (c : Call) (seen : ℕ) (reply : Reply)
      → HasRoom old.history → IsLegal old.history.base old.history.entries → AnswersBy chest old 0 c seen reply new
      → IsLastTile new.history (asks_for c) reply
  last_tile chest old new (tile stack at) seen reply room legal answers = λ v is.
      let h = old.history in
      let last = latest (replay h.base h.entries) in
      let t = chest_taken chest old 0 (tile stack at) seen reply new room answers in
      let says = tile_says (document_of h.base h.entries last) stack at last v (sym t.1.replied ∙ is) in
      let e : Entry = next_entry h.entries 0 (asked (tile stack at) t.0) reply in
      let none : latest_of h.entries + 0 ≡ latest_of h.entries = omega arith in
      let same_version : latest_of (h.entries ++ e ∷ []) ≡ last =
      latest_of-snoc h.entries e ∙ ap (λ r. latest_of h.entries + cond (is_changed r) 1 0) is ∙ none
      ∙ latest_of-legal h.base h.entries legal in
      let same_document : document_of h.base (h.entries ++ e ∷ []) (latest_of (h.entries ++ e ∷ [])) ≡ document_of h.base h.entries last =
      ap (document_of h.base (h.entries ++ e ∷ [])) same_version
      ∙ document_of-append h.base h.entries (e ∷ []) last (omega arith) in
      subst (λ (g : History). (v ≡ version g) × (window_refusal (document g) stack at ≡ None)) (sym t.1.grown)
      (says.0 ∙ sym same_version, ap (λ d. window_refusal d stack at) same_document ∙ says.1)
  last_tile chest old new (edit guard es) seen reply room legal answers = λ v is. tt
  last_tile chest old new (undo named) seen reply room legal answers = λ v is. tt
  last_tile chest old new redo seen reply room legal answers = λ v is. tt
  last_tile chest old new (peek stack at) seen reply room legal answers = λ v is. tt
  last_tile chest old new top seen reply room legal answers = λ v is. tt

-- the digest of a window of the last version is that of the tile that was shown
pub window_shown : (h : History) (cols rows : ℕ) (p : Place) (v : ℕ) (r : Result (String Global) AllocError)
    → IsLastTile h (Some p) (tile_of v)
    → (window_refusal (document h) p.0 p.1 ≡ None
    → IfOk r (λ text. string_bytes text ≡ digest_of (window (document h) p.0 p.1 cols rows)))
    → IfOk r (λ text. string_bytes text ≡ window_digest h cols rows (Some p) (tile_of v))
window_shown h cols rows p v r last digest =
    let is = last v refl in
    subst (λ (n : ℕ). IfOk r (λ text. string_bytes text ≡ digest_of (window (document_of h.base h.entries n) p.0 p.1 cols rows)))
    (sym is.0) (digest is.1)

-- ---- the lines so far stay

digest_stays : (base : Document) (all more : List Entry) (cols rows : ℕ) (k : Kind) (r : Reply)
    → IsUpTo (latest (replay base all)) r → view_digest base (all ++ more) cols rows k r ≡ view_digest base all cols rows k r
digest_stays base all more cols rows (asked (tile stack at) tables) (tile_of v) le =
    ap (λ d. digest_of (window d stack at cols rows)) (document_of-append base all more v le)
digest_stays base all more cols rows (asked (tile stack at) tables) r le = refl
digest_stays base all more cols rows (asked (edit guard es) tables) r le = refl
digest_stays base all more cols rows (asked (undo named) tables) r le = refl
digest_stays base all more cols rows (asked redo tables) r le = refl
digest_stays base all more cols rows (asked (peek stack at) tables) r le = refl
digest_stays base all more cols rows (asked top tables) r le = refl
digest_stays base all more cols rows starts r le = refl
digest_stays base all more cols rows ends r le = refl

each_stays : (base : Document) (all more : List Entry) (cols rows : ℕ) (es : List Entry) → AllByRecursion (IsTold base all) es
    → flat_map (view_line base (all ++ more) cols rows) es ≡ flat_map (view_line base all cols rows) es
each_stays base all more cols rows [] told = refl
each_stays base all more cols rows (e ∷ es) told =
    flat_map-cons (view_line base (all ++ more) cols rows) e es
    ∙ ap (λ (digest : List ℕ). line_text e.session e.index digest e.reply ++ flat_map (view_line base (all ++ more) cols rows) es)
    (digest_stays base all more cols rows e.kind e.reply told.0.shown)
    ∙ ap (λ (rest : List ℕ). view_line base all cols rows e ++ rest) (each_stays base all more cols rows es told.1)
    ∙ sym (flat_map-cons (view_line base all cols rows) e es)

-- ---- one call more

pub shown_none : (base : Document) (cols rows : ℕ) → AreShown base [] cols rows []
shown_none base cols rows = record { played = played_none base; viewed = tt; text = refl }

viewed_more : (es : List Entry) (e : Entry) → AllByRecursion IsViewed es → IsViewed e → AllByRecursion IsViewed (es ++ e ∷ [])
viewed_more [] e all is = (is, tt)
viewed_more (x ∷ es) e all is = (all.0, viewed_more es e all.1 is)

same_digest : (h : History) (cols rows : ℕ) (c : Call) (tables : List (List ℕ)) (reply : Reply)
    → window_digest h cols rows (asks_for c) reply ≡ view_digest h.base h.entries cols rows (asked c tables) reply
same_digest h cols rows (tile stack at) tables reply = refl
same_digest h cols rows (edit guard es) tables reply = refl
same_digest h cols rows (undo named) tables reply = refl
same_digest h cols rows redo tables reply = refl
same_digest h cols rows (peek stack at) tables reply = refl
same_digest h cols rows top tables reply = refl

module _ {D : Type 0} where
  -- the line that is printed is that of the call
  pub call_shown : (chest : List (Option FilterState)) (old new : Editing D) (c : Call) (seen : ℕ) (reply : Reply)
      (cols rows index : ℕ) (bytes digest out text : List ℕ)
      → HasRoom old.history → KeepsExactly old → seen ≡ version old.history
      → AreShown old.history.base old.history.entries cols rows out → AnswersBy chest old 0 c seen reply new
      → IsLegal new.history.base new.history.entries → Shows new.history c reply bytes
      → index ≡ next_index old.history.entries 0 → is_viewed_call c ≡ true
      → digest ≡ window_digest new.history cols rows (asks_for c) reply
      → text ≡ out ++ line_text 0 index digest reply
      → AreShown new.history.base new.history.entries cols rows text
  call_shown chest old new c seen reply cols rows index bytes digest out text room exactly last shown answers legal shows at may is
      printed =
      let h = old.history in
      let g = new.history in
      let t = chest_taken chest old 0 c seen reply new room answers in
      let e : Entry = next_entry h.entries 0 (asked c t.0) reply in
      let grown : g ≡ with_call h 0 c t.0 reply = t.1.grown in
      let printed_so =
      chest_printed chest old c seen reply new bytes (lines_in h.base h.entries) index (shown_of reply bytes)
      (lines_in h.base h.entries ++ line_text 0 index (shown_of reply bytes) reply) room exactly last shown.played answers legal
      shows at refl refl in
      let played : ArePlayed g.base g.entries (lines_in g.base g.entries) =
      subst (ArePlayed g.base g.entries) printed_so.text printed_so in
      let viewed : AllByRecursion IsViewed g.entries =
      subst (λ (x : History). AllByRecursion IsViewed x.entries) (sym grown)
      (viewed_more h.entries e shown.viewed (record { first = refl; kind = may })) in
      let all : List Entry = h.entries ++ e ∷ [] in
      let line = view_line h.base all cols rows e in
      let stays : view_text h.base all cols rows ≡ out ++ line =
      flat_map-append (view_line h.base all cols rows) h.entries (e ∷ [])
      ∙ ap (λ (front : List ℕ). front ++ flat_map (view_line h.base all cols rows) (e ∷ []))
      (each_stays h.base h.entries (e ∷ []) cols rows h.entries
      (each_told h.base h.entries shown.played.legal shown.played.ended) ∙ sym shown.text)
      ∙ ap (λ (l : List ℕ). out ++ l) (append-nil line) in
      let digest_is : digest ≡ view_digest h.base all cols rows (asked c t.0) reply =
      is ∙ ap (λ (x : History). window_digest x cols rows (asks_for c) reply) grown
      ∙ same_digest (with_call h 0 c t.0 reply) cols rows c t.0 reply in
      let same_text : text ≡ view_text h.base all cols rows =
      printed ∙ ap (λ (n : ℕ). out ++ line_text 0 n digest reply) at
      ∙ ap (λ (d : List ℕ). out ++ line_text 0 (next_index h.entries 0) d reply) digest_is ∙ sym stays in
      record {
        played = played;
        viewed = viewed;
        text = same_text ∙ ap (λ (x : History). view_text x.base x.entries cols rows) (sym grown);
      }
