-- What session 0 is answered where it is alone.
use Rattle.std.proofs.Common.{◌≡◌, ℕ, ◌+◌, Bool, true, false, cond, List, [], ◌∷◌, ◌++◌, refl, sym, ◌∙◌, ap, subst}
use Rattle.std.proofs.Common.{arith, append_assoc, append-nil}
use Rattle.std.specs.Prelude.{◌==◌, Option, Some, None}
use Rattle.spec_document.specs.Document.{Document}
use Rattle.spec_document.specs.declared.TileAt.{TileAt}
use Rattle.spec_history.specs.Machine.{edit, undo, redo, tile, peek, top, Reply, tile_of, stale, saved, save_fault}
use Rattle.spec_history.specs.Machine.{save_memory, latest, document_at}
use Rattle.spec_history.specs.History.{Entry, Kind, asked, starts, ends, EndsWith}
use Rattle.spec_history.specs.Kept as history
use Rattle.spec_history.specs.Slots.{kept_peek}
use Rattle.spec_saves.specs.Names.{ends_by_fault, save_faults}
use Rattle.spec_saves.proofs.Staying.{save_faults-snoc}
use Rattle.spec_text.specs.Text.{is_save_memory, IsAlonePeek, IsEnd, EndsNext, IsAlone, AreAlone}
use Rattle.spec_world.specs.World.{World}
use Rattle.spec_world.specs.Events.{where_tile, reply_to}
use Rattle.spec_world.specs.Right.{IsRight}
use Rattle.spec_world.specs.Exact.{SlotsAreExact}
use Rattle.spec_world.proofs.StaysExact.{answers-so}
use Rattle.spec_text.proofs.Shown.{tile_either}

-- ---- entries behind others

ends_later : (start : Reply) (es more : List Entry) → EndsNext start es → EndsNext start (es ++ more)
ends_later start [] more h = absurd h
ends_later start (e ∷ es) more h = h

alone_later : (base : Document) (earlier : List Entry) (k : Kind) (r : Reply) (es more : List Entry) → IsAlone base earlier k r es
    → IsAlone base earlier k r (es ++ more)
alone_later base earlier (asked (edit guard es') tables) r es more h = tt
alone_later base earlier (asked (undo named) tables) r es more h = tt
alone_later base earlier (asked redo tables) r es more h = tt
alone_later base earlier (asked (tile stack at) tables) r es more h = tt
alone_later base earlier (asked (peek stack at) tables) r es more h = h
alone_later base earlier (asked top tables) r es more h = tt
alone_later base earlier starts r es more h = ends_later r es more h
alone_later base earlier ends r es more h = tt

pub alone_append : (base : Document) (earlier es more : List Entry) → AreAlone base earlier es → AreAlone base (earlier ++ es) more
    → AreAlone base earlier (es ++ more)
alone_append base earlier [] more first rest = subst (λ l. AreAlone base l more) (append-nil earlier) rest
alone_append base earlier (e ∷ es) more first rest = (
  alone_later base earlier e.kind e.reply es more first.0,
  alone_append base (earlier ++ e ∷ []) es more first.1
      (subst (λ l. AreAlone base l more) (sym (append_assoc earlier (e ∷ []) es)) rest),
)

-- what holds of a history of session 0 where no save failed
abbrev pub AloneIf : Document → List Entry → Type 0
AloneIf base es = save_faults es ≡ 0 → AreAlone base [] es

no_fault_before : (es : List Entry) (e : Entry) → save_faults (es ++ e ∷ []) ≡ 0 → save_faults es ≡ 0
no_fault_before es e none = let more = save_faults-snoc es e in omega (arith, none, more)

no_fault_last : (es : List Entry) (e : Entry) → save_faults (es ++ e ∷ []) ≡ 0 → ends_by_fault e.kind e.reply ≡ false
no_fault_last es e none = go (ends_by_fault e.kind e.reply) (save_faults-snoc es e) where
  go : (b : Bool) → save_faults (es ++ e ∷ []) ≡ save_faults es + cond b 1 0 → b ≡ false
  go true more = absurd (omega (arith, none, more))
  go false more = refl

-- ---- a call

pub alone_call : (base : Document) (es : List Entry) (e : Entry) → AloneIf base es → IsAlone base es e.kind e.reply []
    → AloneIf base (es ++ e ∷ [])
alone_call base es e before last none = alone_append base [] es (e ∷ []) (before (no_fault_before es e none)) (last, tt)

alone_kept : (k : Option ℕ) (now : ℕ) → IsAlonePeek k now (kept_peek k now)
alone_kept None now = refl
alone_kept (Some k) now = go (k == now) refl where
  go : (b : Bool) → (k == now) ≡ b → IsAlonePeek (Some k) now (cond b (tile_of now) (stale (Some k) now))
  go true q = sym (ap (λ b. cond b (tile_of now) (stale (Some k) now)) q)
  go false q = sym (ap (λ b. cond b (tile_of now) (stale (Some k) now)) q)

-- a peek of a world whose pictures are just those that have to be kept, by a session that has seen its last version
pub alone_peek : (base : Document) (w : World) (stack : ℕ) (at : TileAt) (seen : ℕ) (tables : List (List ℕ)) → IsRight base w
    → SlotsAreExact base w → seen ≡ latest w.state
    → IsAlonePeek (history.kept base w.entries stack at) (latest w.state) (reply_to base w (peek stack at) seen tables)
alone_peek base w stack at seen tables right exact last =
    let k = history.kept base w.entries stack at in
    subst (IsAlonePeek k (latest w.state))
    (sym (ap (λ n. reply_to base w (peek stack at) n tables) last ∙ answers-so base w stack at tables right exact))
    (tile_either (λ (plain : Reply). IsAlonePeek k (latest w.state) (where_tile plain (kept_peek k (latest w.state))))
    (document_at base w.state (latest w.state)) stack at (tile_of (latest w.state)) tt tt
    (alone_kept k (latest w.state)))

-- ---- a save

-- where no fault came the end is answered as the start
same_end : (now : ℕ) (r : Reply) → EndsWith now r → is_save_memory r ≡ false → ends_by_fault ends r ≡ false → r ≡ saved now
same_end now (saved v) is printed none = ap saved is
same_end now (save_fault v) is printed none = let bad : true ≡ false = none in cc
same_end now (save_memory v) is printed none = let bad : true ≡ false = printed in cc
same_end now r is printed none = absurd is

pub alone_save : (base : Document) (es : List Entry) (start end : Entry) (now : ℕ) → AloneIf base es → start.kind ≡ starts
    → end.kind ≡ ends → start.reply ≡ saved now → EndsWith now end.reply
    → is_save_memory end.reply ≡ false → AloneIf base (es ++ start ∷ end ∷ [])
alone_save base es start end now before starts_now ends_now first last printed none =
    let faults : save_faults ((es ++ start ∷ []) ++ end ∷ []) ≡ 0 =
    ap save_faults (append_assoc es (start ∷ []) (end ∷ [])) ∙ none in
    let fault = subst (λ k. ends_by_fault k end.reply ≡ false) ends_now (no_fault_last (es ++ start ∷ []) end faults) in
    let same : end.reply ≡ start.reply = same_end now end.reply last printed fault ∙ sym first in
    alone_append base [] es (start ∷ end ∷ [])
    (before (no_fault_before es start (no_fault_before (es ++ start ∷ []) end faults))) (
      subst (λ k. IsAlone base es k start.reply (end ∷ [])) (sym starts_now) (subst IsEnd (sym ends_now) tt, same),
      (subst (λ k. IsAlone base (es ++ start ∷ []) k end.reply []) (sym ends_now) tt, tt),
    )
