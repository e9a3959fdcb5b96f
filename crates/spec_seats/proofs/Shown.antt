-- The digests of the tiles that a session was shown, as the history grows.
use Rattle.std.proofs.Common.{◌≡◌, ℕ, ◌+◌, ◌<◌, ◌≤◌, Bool, true, false, cond, List, [], ◌∷◌, ◌++◌, length, Some, None}
use Rattle.std.proofs.Common.{refl, sym, ◌∙◌, ap, subst, arith, append-nil, append_assoc}
use Rattle.std.specs.Prelude.{not}
use Rattle.std.specs.List.{AllByRecursion}
use Rattle.std.proofs.lemmas.List.Concat.{flat_map-append, flat_map-cons}
use mathlib.Core.List.{IsPrefix}
use Rattle.spec_document.specs.declared.TileAt.{TileAt}
use Rattle.spec_document.specs.Grid.{is_on_grid}
use Rattle.spec_document.specs.Document.{Document}
use Rattle.spec_document.specs.Picture.{project}
use Rattle.spec_history.specs.Machine.{tile_of, no_stack}
use Rattle.spec_history.specs.Machine.{outside_tile, State, Saving, latest, initial}
use Rattle.spec_history.specs.Machine.{has_stack, tile_reply}
use Rattle.spec_history.specs.History.{Entry, Kind, starts, ends, after_entry, replay_from, replay}
use Rattle.spec_history.specs.History.{PeekAnswers, MayPeek, EndsWith, MayEnd, MayBe, RunFrom}
use Rattle.spec_history.specs.Kept.{IsLegal}
use Rattle.spec_history.proofs.Growing.{document_of-append}
use Rattle.spec_history.proofs.Versions.{IsSound, sound-initial, goes-step, ends-run}
use Rattle.spec_text.specs.Text.{digest_of, shown_digest}
use Rattle.spec_seats.specs.Picked.{is_at, picked_from, picked}
use Rattle.spec_seats.specs.Digests.{shows_tile, digest_in, digests_in}
use Rattle.spec_seats.proofs.Entries.{picked-none}
use Rattle.spec_seats.proofs.More.{picked_grown, picked_one, picked_two, before_end, with_save}
use Rattle.spec_text.proofs.Shown.{IsUpTo, up_to_later, up_to_step, digest_stays}

-- each version that is shown along a run is there at its end
up_to_run : (base : Document) (s : State) (earlier es : List Entry) → IsSound s → RunFrom base s earlier es
    → AllByRecursion (λ e. IsUpTo (latest (replay_from base s es)) e.reply) es
up_to_run base s earlier [] sound run = tt
up_to_run base s earlier (e ∷ es) sound run =
    let goes = goes-step base s earlier e sound run.0 in
    let more = (ends-run base s earlier (e ∷ es) sound run).more in
    let le : latest s ≤ latest (replay_from base s (e ∷ es)) = omega (arith, more) in (
      up_to_later (latest s) (latest (replay_from base s (e ∷ es))) e.reply le (up_to_step base s earlier e e.kind run.0),
      up_to_run base (after_entry base s e) (earlier ++ e ∷ []) es goes.sound run.1,
    )

digests_along : (base : Document) (all more own : List Entry) → AllByRecursion (λ e. IsUpTo (latest (replay base all)) e.reply) own
    → digests_in base (all ++ more) own ≡ digests_in base all own
digests_along base all more [] up = refl
digests_along base all more (e ∷ own) up =
    flat_map-cons (λ x. digest_in base (all ++ more) x.kind x.reply) e own
    ∙ ap (λ d. cond (shows_tile e.kind e.reply) (d ∷ []) []
    ++ digests_in base (all ++ more) own) (digest_stays base all more e.kind e.reply up.0)
    ∙ ap (λ ds. digest_in base all e.kind e.reply ++ ds) (digests_along base all more own up.1)
    ∙ sym (flat_map-cons (λ x. digest_in base all x.kind x.reply) e own)

all_picked : (P : Entry → Type 0) (at : ℕ) (places : List ℕ) (es : List Entry) → AllByRecursion P es
    → AllByRecursion P (picked_from at places es)
all_picked P at places [] all = tt
all_picked P at places (e ∷ es) all = go (is_at at places) (all_picked P (at + 1) places es all.1) where
  go : (b : Bool) → AllByRecursion P (picked_from (at + 1) places es)
      → AllByRecursion P (cond b (e ∷ picked_from (at + 1) places es) (picked_from (at + 1) places es))
  go true rest = (all.0, rest)
  go false rest = rest

digests_longer : (base : Document) (places : List ℕ) (es new : List Entry) → IsLegal base es → IsPrefix es new
    → digests_in base new (picked places es) ≡ digests_in base es (picked places es)
digests_longer base places es new legal begins =
    let Up : Entry → Type 0 = λ e. IsUpTo (latest (replay base es)) e.reply in
    let up : AllByRecursion Up es = up_to_run base (initial base) [] es (sound-initial base) legal.run in
    sym (ap (λ all. digests_in base all (picked places es)) begins.1)
    ∙ digests_along base es begins.0 (picked places es) (all_picked Up 0 places es up)

-- ---- as the history grows

-- the entries of others change no digest
pub digests_grow : (base : Document) (places : List ℕ) (es new : List Entry) → IsLegal base es → IsPrefix es new
    → AllByRecursion (λ p. p < length es) places
    → digests_in base new (picked places new) ≡ digests_in base es (picked places es)
digests_grow base places es new legal begins within =
    ap (digests_in base new) (picked_grown places es new begins within) ∙ digests_longer base places es new legal begins

-- nothing was shown yet
pub digests_none : (base : Document) (es : List Entry) → digests_in base es (picked [] es) ≡ []
digests_none base es = ap (digests_in base es) (picked-none 0 es)

digests_snoc : (base : Document) (all own : List Entry) (e : Entry)
    → digests_in base all (own ++ e ∷ []) ≡ digests_in base all own ++ digest_in base all e.kind e.reply
digests_snoc base all own e =
    flat_map-append (λ x. digest_in base all x.kind x.reply) own (e ∷ [])
    ∙ ap (λ ds. digests_in base all own ++ ds) (flat_map-cons (λ x. digest_in base all x.kind x.reply) e []
    ∙ append-nil (digest_in base all e.kind e.reply))

prefix_more : (es entered more : List Entry) → IsPrefix es entered → IsPrefix es (entered ++ more)
prefix_more es entered more begins = (begins.0 ++ more, sym (append_assoc es begins.0 more) ∙ ap (λ xs. xs ++ more) begins.1)

-- an entry more, with its digest if it shows a tile
pub digests_one : (base : Document) (places : List ℕ) (es entered : List Entry) (e : Entry) → IsLegal base es → IsPrefix es entered
    → AllByRecursion (λ p. p < length es) places
    → digests_in base (entered ++ e ∷ []) (picked (places ++ length entered ∷ []) (entered ++ e ∷ []))
    ≡ digests_in base es (picked places es) ++ digest_in base (entered ++ e ∷ []) e.kind e.reply
digests_one base places es entered e legal begins within =
    let all = entered ++ e ∷ [] in
    ap (digests_in base all) (picked_one places es entered e begins within)
    ∙ digests_snoc base all (picked places es) e
    ∙ ap (λ ds. ds ++ digest_in base all e.kind e.reply)
    (digests_longer base places es all legal (prefix_more es entered (e ∷ []) begins))

-- a save shows no tile
pub digests_save : (base : Document) (places : List ℕ) (es entered : List Entry) (s : Entry) (between : List Entry) (t : Entry)
    → IsLegal base es → IsPrefix es entered
    → AllByRecursion (λ p. p < length es) places → s.kind ≡ starts → t.kind ≡ ends
    → digests_in base (before_end entered s between
    ++ t ∷ []) (picked (with_save places entered s between) (before_end entered s between ++ t ∷ []))
    ≡ digests_in base es (picked places es)
digests_save base places es entered s between t legal begins within starts_so ends_so =
    let all = before_end entered s between ++ t ∷ [] in
    let mine = picked places es in
    let longer = prefix_more es (before_end entered s between) (t ∷ [])
    (prefix_more es (entered ++ s ∷ []) between (prefix_more es entered (s ∷ []) begins)) in
    let no_start : digest_in base all s.kind s.reply ≡ [] = ap (λ k. digest_in base all k s.reply) starts_so in
    let no_end : digest_in base all t.kind t.reply ≡ [] = ap (λ k. digest_in base all k t.reply) ends_so in
    ap (digests_in base all) (picked_two places es entered s between t begins within)
    ∙ digests_snoc base all (mine ++ s ∷ []) t
    ∙ ap (λ ds. digests_in base all (mine ++ s ∷ []) ++ ds) no_end ∙ append-nil (digests_in base all (mine ++ s ∷ []))
    ∙ digests_snoc base all mine s
    ∙ ap (λ ds. digests_in base all mine ++ ds) no_start ∙ append-nil (digests_in base all mine)
    ∙ digests_longer base places es all legal longer

-- ---- the digest of a reply
