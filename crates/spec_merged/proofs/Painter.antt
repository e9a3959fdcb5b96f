-- What lines that fill make of a document, leaf by leaf.
use Rattle.std.proofs.Common.{◌≡◌, ℕ, Bool, true, false, cond, eqb, List, [], ◌∷◌, refl, ◌∙◌, ap}
use Rattle.std.specs.Prelude.{slice_index, Option, Some, None}
use Rattle.spec_document.specs.Changes.{with_leaf}
use Rattle.spec_document.specs.declared.Rect.{Rect}
use Rattle.spec_document.specs.Document.{Document, Layer}
use Rattle.spec_edit.specs.declared.EditRefused.{EditRefused}
use Rattle.spec_edit.specs.Edit.{Edit, fill}
use Rattle.spec_edit.specs.Refusal.{refusal}
use Rattle.spec_edit.specs.Effect.{paint, change_leaf}
use Rattle.spec_history.specs.Machine.{Call, edit}
use Rattle.spec_script.specs.Script.{Line, call, save, forget}
use Rattle.spec_merged.proofs.Leaves.{all_leaves, with_leaf-all_leaves}
use Rattle.spec_merged.proofs.Painted.{with_nodes, paint-nodes, KeepsLike, IsLike, like_itself, like_both}
use Rattle.spec_merged.proofs.Painted.{like_painted, refusal-like}

-- ---- a fill, refused or not

abbrev pub filled_unless : Option EditRefused → Document → (id : ℕ) → Rect → (pixel : List ℕ) → Document
filled_unless None d id rect pixel = change_leaf d id (paint d rect (λ x y c. slice_index pixel c))
filled_unless (Some r) d id rect pixel = d

abbrev pub filled : Document → (id : ℕ) → Rect → (pixel : List ℕ) → Document
filled d id rect pixel = filled_unless (refusal d (fill id rect pixel)) d id rect pixel

-- the same of one leaf, by the document that the fills began with
abbrev pub painted_unless : Option EditRefused → Document → (id : ℕ) → Rect → (pixel : List ℕ) → (i : ℕ) → Layer → Layer
painted_unless None base id rect pixel i l = cond (eqb id i) (paint base rect (λ x y c. slice_index pixel c) l) l
painted_unless (Some r) base id rect pixel i l = l

abbrev pub painted : Document → (id : ℕ) → Rect → (pixel : List ℕ) → (i : ℕ) → Layer → Layer
painted base id rect pixel i l = painted_unless (refusal base (fill id rect pixel)) base id rect pixel i l

like_painted_unless : (r : Option EditRefused) (base : Document) (id : ℕ) (rect : Rect) (pixel : List ℕ)
    → KeepsLike (painted_unless r base id rect pixel)
like_painted_unless None base id rect pixel i l = go (eqb id i) where
  go : (b : Bool) → IsLike (cond b (paint base rect (λ x y c. slice_index pixel c) l) l) l
  go true = like_painted base rect (λ x y c. slice_index pixel c) l
  go false = like_itself l
like_painted_unless (Some r) base id rect pixel i l = like_itself l

-- a document whose leaves were changed, each by its id
abbrev pub changed_leaves : Document → (ℕ → Layer → Layer) → Document
changed_leaves base change = with_nodes base (all_leaves change base.nodes)

-- a fill behind such a change
pub filled-leaves : (base : Document) (change : ℕ → Layer → Layer) → KeepsLike change → (id : ℕ) (rect : Rect) (pixel : List ℕ)
    → filled (changed_leaves base change) id rect pixel ≡ changed_leaves base (λ i l. painted base id rect pixel i (change i l))
filled-leaves base change keeps id rect pixel =
    ap (λ (r : Option EditRefused). filled_unless r (changed_leaves base change) id rect pixel)
    (refusal-like base change keeps id rect pixel)
    ∙ go (refusal base (fill id rect pixel)) where
      byte : ℕ → ℕ → ℕ → ℕ
      byte x y c = slice_index pixel c

      go : (r : Option EditRefused)
          → filled_unless r (changed_leaves base change) id rect pixel
          ≡ changed_leaves base (λ i l. painted_unless r base id rect pixel i (change i l))
      go (Some r) = refl
      go None =
          (λ k. with_nodes base (with_leaf id
          (λ l. paint-nodes base (all_leaves change base.nodes) rect (λ x y c. slice_index pixel c) l k)
          (all_leaves change base.nodes)))
          ∙ ap (with_nodes base) (with_leaf-all_leaves id (paint base rect (λ x y c. slice_index pixel c)) change base.nodes)

-- ---- lines

abbrev pub painter_edit : Document → Edit → (i : ℕ) → Layer → Layer
painter_edit base (fill id rect pixel) i l = painted base id rect pixel i l
painter_edit base e i l = l

-- the first edit of a group alone, which is all of it where it is a fill of its session's own
abbrev pub painter_edits : Document → List Edit → (i : ℕ) → Layer → Layer
painter_edits base [] i l = l
painter_edits base (e ∷ es) i l = painter_edit base e i l

abbrev pub painter_call : Document → Call → (i : ℕ) → Layer → Layer
painter_call base (edit guard es) i l = painter_edits base es i l
painter_call base c i l = l

abbrev pub painter : Document → Line → (i : ℕ) → Layer → Layer
painter base (call c) i l = painter_call base c i l
painter base save i l = l
painter base (forget slot) i l = l

like_painter_edit : (base : Document) (e : Edit) → KeepsLike (painter_edit base e)
like_painter_edit base (fill id rect pixel) i l = like_painted_unless (refusal base (fill id rect pixel)) base id rect pixel i l
like_painter_edit base e i l = like_itself l

like_painter_edits : (base : Document) (es : List Edit) → KeepsLike (painter_edits base es)
like_painter_edits base [] i l = like_itself l
like_painter_edits base (e ∷ es) i l = like_painter_edit base e i l

like_painter_call : (base : Document) (c : Call) → KeepsLike (painter_call base c)
like_painter_call base (edit guard es) i l = like_painter_edits base es i l
like_painter_call base c i l = like_itself l

pub like_painter : (base : Document) (line : Line) → KeepsLike (painter base line)
like_painter base (call c) i l = like_painter_call base c i l
like_painter base save i l = like_itself l
like_painter base (forget slot) i l = like_itself l

-- a layer after lines
abbrev pub along : Document → List Line → (i : ℕ) → Layer → Layer
along base [] i l = l
along base (line ∷ lines) i l = along base lines i (painter base line i l)

-- a layer after the lines of all sessions, one session after another
abbrev pub along_all : Document → List (List Line) → (i : ℕ) → Layer → Layer
along_all base [] i l = l
along_all base (lines ∷ lists) i l = along_all base lists i (along base lines i l)

pub like_along : (base : Document) (lines : List Line) → KeepsLike (along base lines)
like_along base [] i l = like_itself l
like_along base (line ∷ lines) i l =
    like_both (along base lines i (painter base line i l)) (painter base line i l) l
    (like_along base lines i (painter base line i l)) (like_painter base line i l)
