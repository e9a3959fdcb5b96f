-- The last document after lines that fill, made by the machine.
use Rattle.std.proofs.Common.{◌≡◌, ℕ, ◌-◌, List, [], ◌∷◌, ◌++◌, length, refl, sym, ◌∙◌, ap, arith, length-append}
use Rattle.std.specs.Prelude.{slice_get, unwrap_or, Option, Some, None, Ok}
use Rattle.std.proofs.lemmas.Option.{unwrap_or-slice_get}
use Rattle.std.proofs.Math.Seq.{get_or-append_seam}
use Rattle.spec_document.specs.declared.Rect.{Rect}
use Rattle.spec_document.specs.Document.{Document, Layer}
use Rattle.spec_edit.specs.declared.EditRefused.{EditRefused}
use Rattle.spec_edit.specs.Edit.{Edit, fill}
use Rattle.spec_edit.specs.Refusal.{refusal}
use Rattle.spec_edit.specs.Apply.{At, after, unless_refused}
use Rattle.spec_history.specs.Machine.{Call, edit, undo, redo, tile, peek, top, State, latest, document_at, made, answer}
use Rattle.spec_script.specs.Script.{Line, call, save, forget}
use Rattle.spec_generated.specs.Summary.{after_line}
use Rattle.spec_merged.specs.Fills.{IsOwnCall, IsOwnLine}
use Rattle.spec_merged.proofs.Painted.{KeepsLike}
use Rattle.spec_merged.proofs.Painter.{filled, filled_unless, changed_leaves, filled-leaves, painter, painter_call, painter_edits}

-- the document of the last version
abbrev pub last : Document → State → Document
last base s = document_at base s (latest s)

-- what a document is that is put behind all
last_of : (base : Document) (ds : List Document) (d : Document)
    → unwrap_or (slice_get (ds ++ d ∷ []) (length (ds ++ d ∷ []) - 1)) base ≡ d
last_of base ds d =
    let place : length (ds ++ d ∷ []) - 1 ≡ length ds = let l = length-append ds (d ∷ []) in omega (arith, l) in
    ap (λ (n : ℕ). unwrap_or (slice_get (ds ++ d ∷ []) n) base) place
    ∙ unwrap_or-slice_get (ds ++ d ∷ []) (length ds) base
    ∙ get_or-append_seam ds d [] base

-- a fill, alone and unguarded
last-fill : (base : Document) (s : State) (tables : List (List ℕ)) (id : ℕ) (rect : Rect) (pixel : List ℕ)
    → last base (answer base s (edit None (fill id rect pixel ∷ [])) tables).state ≡ filled (last base s) id rect pixel
last-fill base s tables id rect pixel = go (refusal (last base s) (fill id rect pixel)) where
  old : At
  old = record { document = document_at base s (latest s); next = s.next_id }

  go : (r : Option EditRefused) → last base
      (made s (record { document = document_at base s (latest s); next = s.next_id }) (fill id rect pixel ∷ []) tables
      (after 0 (unless_refused r (record { document = filled_unless None (last base s) id rect pixel; next = s.next_id }))
      (λ (mid : At). Ok mid))).state
      ≡ filled_unless r (last base s) id rect pixel
  go None = last_of base s.documents (filled_unless None (last base s) id rect pixel)
  go (Some r) = refl

module _ (owner : ℕ → ℕ) (session : ℕ) (base : Document) (change : ℕ → Layer → Layer) (keeps : KeepsLike change) where
  -- a call of its session, behind a change of the leaves
  pub last-call : (s : State) (c : Call) (tables : List (List ℕ)) → IsOwnCall owner session c
      → last base s ≡ changed_leaves base change
      → last base (answer base s c tables).state ≡ changed_leaves base (λ i l. painter_call base c i (change i l))
  last-call s (edit guard es) tables own at =
      ap (λ (g : Option ℕ). last base (answer base s (edit g es) tables).state) own.unguarded
      ∙ ap (λ (x : List Edit). last base (answer base s (edit None x) tables).state) own.alone
      ∙ last-fill base s tables own.id own.rect own.pixel
      ∙ ap (λ (d : Document). filled d own.id own.rect own.pixel) at
      ∙ filled-leaves base change keeps own.id own.rect own.pixel
      ∙ ap (λ (x : List Edit). changed_leaves base (λ i l. painter_edits base x i (change i l))) (sym own.alone)
  last-call s (undo named) tables own at = absurd own
  last-call s redo tables own at = absurd own
  last-call s (tile stack place) tables own at = at
  last-call s (peek stack place) tables own at = at
  last-call s top tables own at = at

  pub last-line : (s : State) (line : Line) → IsOwnLine owner session line → last base s ≡ changed_leaves base change
      → last base (after_line base s line) ≡ changed_leaves base (λ i l. painter base line i (change i l))
  last-line s (call c) own at = last-call s c [] own at
  last-line s save own at = at
  last-line s (forget slot) own at = at
