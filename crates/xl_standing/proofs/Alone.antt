-- What a group of one edit comes to that paints a layer.
use Rattle.std.proofs.Common.{◌≡◌, ℕ, ◌+◌, true, false, cond, List, [], ◌∷◌, length, refl, sym, ◌∙◌, ap, subst, arith}
use Rattle.std.specs.Prelude.{Option, Some, None, Ok, Err}
use Rattle.std.specs.List.{AllByRecursion}
use Rattle.std.proofs.lemmas.List.{append-nil}
use Rattle.spec_document.specs.Forest.{Found, nothing, a_leaf, a_group}
use Rattle.spec_document.specs.declared.Rect.{Rect}
use Rattle.spec_document.specs.Document.{Document, Layer, Group}
use Rattle.spec_edit.specs.declared.EditRefused.{EditRefused}
use Rattle.spec_edit.specs.Edit as edits
use Rattle.spec_edit.specs.Edit.{Edit, IsEdit}
use Rattle.spec_edit.specs.Refusal.{node, refusal}
use Rattle.spec_edit.specs.Effect.{effect, makes_node}
use Rattle.spec_edit.specs.Apply.{At, unless_refused, apply, after, is_filter, apply_group}
use Rattle.spec_damage.specs.Damage.{damage}
use Rattle.spec_standing.specs.Group.{HasIds, damage_along}
use Rattle.spec_filters.specs.declared.FilterState.{FilterState}
use Rattle.spec_tables.specs.Acceptance.{filter_count}
use Rattle.spec_tables.specs.Agrees.{AreAsked}
use Rattle.spec_tables.proofs.Asked.{no_filters-asked}
use Rattle.xl_doc.specs.Sheet.{Sheet}
use Rattle.xl_calls.specs.declared.edit.Edit as calls
use Rattle.xl_calls.specs.Applicable.{HasNext}
use Rattle.xl_calls.specs.Edits.{edit_of, edits_of}
use Rattle.xl_checks.specs.Found.{sheet_found}
use Rattle.xl_damage.specs.Painted.{IsPaint}
use Rattle.xl_paint.specs.Applied.{at}
use Rattle.xl_standing.specs.Made.{MayPaint}
use Rattle.xl_standing.proofs.Groups.{same_table, applied_is}

-- the edits that paint
fill_paints : (id : ℕ) (rect : Rect) (pixel : List ℕ) → IsPaint id (edits.fill id rect pixel)
fill_paints id rect pixel = record { changes = λ d next table. (_, refl); before = λ old new other next n. refl }

write_paints : (id : ℕ) (rect : Rect) (bytes : List ℕ) → IsPaint id (edits.write id rect bytes)
write_paints id rect bytes = record { changes = λ d next table. (_, refl); before = λ old new other next n. refl }

copy_paints : (id : ℕ) (rect : Rect) (source u v : ℕ) → IsPaint id (edits.copy_rect id rect source u v)
copy_paints id rect source u v = record { changes = λ d next table. (_, refl); before = λ old new other next n. refl }

mask_paints : (id : ℕ) (rect : Rect) (value : ℕ) → IsPaint id (edits.fill_mask id rect value)
mask_paints id rect value = record { changes = λ d next table. (_, refl); before = λ old new other next n. refl }

layer_of_sheet : (found : Found Layer Group) (s : Sheet) → sheet_found found ≡ Some s → (l : Layer) × (found ≡ a_leaf l)
layer_of_sheet nothing s e = cc
layer_of_sheet (a_leaf l) s e = (l, refl)
layer_of_sheet (a_group g c) s e = cc

-- one of them that is not refused
pub may_fill : (d : Document) (id : ℕ) (rect : Rect) (pixel : List ℕ) (s : Sheet) → sheet_found (node d id) ≡ Some s
    → refusal d (edits.fill id rect pixel) ≡ None → MayPaint d id (edits.fill id rect pixel)
may_fill d id rect pixel s found allowed = record {
  paints = fill_paints id rect pixel;
  allowed = allowed;
  there = layer_of_sheet (node d id) s found;
  plain = refl;
  keeps = refl;
}

pub may_write : (d : Document) (id : ℕ) (rect : Rect) (bytes : List ℕ) (s : Sheet) → sheet_found (node d id) ≡ Some s
    → refusal d (edits.write id rect bytes) ≡ None → MayPaint d id (edits.write id rect bytes)
may_write d id rect bytes s found allowed = record {
  paints = write_paints id rect bytes;
  allowed = allowed;
  there = layer_of_sheet (node d id) s found;
  plain = refl;
  keeps = refl;
}

pub may_copy : (d : Document) (id : ℕ) (rect : Rect) (source u v : ℕ) (s : Sheet) → sheet_found (node d id) ≡ Some s
    → refusal d (edits.copy_rect id rect source u v) ≡ None → MayPaint d id (edits.copy_rect id rect source u v)
may_copy d id rect source u v s found allowed = record {
  paints = copy_paints id rect source u v;
  allowed = allowed;
  there = layer_of_sheet (node d id) s found;
  plain = refl;
  keeps = refl;
}

pub may_fill_mask : (d : Document) (id : ℕ) (rect : Rect) (value : ℕ) (s : Sheet) → sheet_found (node d id) ≡ Some s
    → refusal d (edits.fill_mask id rect value) ≡ None → MayPaint d id (edits.fill_mask id rect value)
may_fill_mask d id rect value s found allowed = record {
  paints = mask_paints id rect value;
  allowed = allowed;
  there = layer_of_sheet (node d id) s found;
  plain = refl;
  keeps = refl;
}

-- what an edit makes of a document that is no filter and makes no node
module _ (old : At) (d : Document) (next : ℕ) (e : Edit) (table : List ℕ) where
  plain_apply : is_filter e ≡ false → apply old e table ≡ Ok (at d next) → apply old e [] ≡ Ok (at d next)
  plain_apply plain came = sym (same_table old e table [] (λ is. let wrong : true ≡ false = sym is ∙ plain in cc)) ∙ came

  made_at : is_filter e ≡ false → apply old e table ≡ Ok (at d next)
      → record { document = effect old.document old.next [] e; next = cond (makes_node e) (old.next + 1) old.next } ≡ at d next
  made_at plain came =
      (applied_is (refusal old.document e) (record {
        document = effect old.document old.next [] e;
        next =
            cond (makes_node e) (old.next + 1) old.next;
      }) (at d next) (plain_apply plain came)).1

  pub made_alone : is_filter e ≡ false → apply old e table ≡ Ok (at d next) → d ≡ effect old.document old.next [] e
  made_alone plain came = ap (λ (a : At). a.document) (sym (made_at plain came))

  pub applied_alone : is_filter e ≡ false → makes_node e ≡ false → apply old e table ≡ Ok (at d next)
      → apply_group old (e ∷ []) [] ≡ Ok (at d old.next)
  applied_alone plain keeps came =
      let same : next ≡ old.next = ap (λ (a : At). a.next) (sym (made_at plain came)) ∙ ap (λ b. cond b (old.next + 1) old.next) keeps in
      ap (λ r. after 0 r (λ mid. Ok mid)) (plain_apply plain came) ∙ ap (λ n. Ok (at d n)) same

pub damage_alone : (old : At) (e : Edit) → damage_along old (e ∷ []) [] ≡ damage old.document e
damage_alone old e = append-nil (damage old.document e)

-- why it is refused
pub refused_alone : (old : At) (e : Edit) (cause : EditRefused) → refusal old.document e ≡ Some cause
    → apply_group old (e ∷ []) [] ≡ Err (record { index = 0; cause = cause })
refused_alone old e cause is =
    ap (λ r. after 0 (unless_refused r (record {
      document = effect old.document old.next [] e;
      next =
          cond (makes_node e) (old.next + 1) old.next;
    })) (λ mid. Ok mid)) is

-- a group of one
pub one_is_edit : (edits : List calls.Edit) (e : calls.Edit) → edits ≡ e ∷ [] → AllByRecursion IsEdit (edits_of edits)
    → IsEdit (edit_of e)
one_is_edit edits e is all = (subst (λ (es : List calls.Edit). AllByRecursion IsEdit (edits_of es)) is all).0

pub one_has_next : (d : Document) (next : ℕ) (edits : List calls.Edit) (e : calls.Edit) → edits ≡ e ∷ []
    → HasIds (at d next) (length edits) → HasNext d next (edit_of e)
one_has_next d next edits e is ids =
    let one : HasIds (at d next) 1 = subst (λ (es : List calls.Edit). HasIds (at d next) (length es)) is ids in
    let room = one.room in
    record { positive = one.is.positive; below = one.is.below; another = λ makes. omega (arith, room) }

pub one_asks_none : (chest : List (Option FilterState)) (edits : List calls.Edit) (e : calls.Edit) → edits ≡ e ∷ []
    → is_filter (edit_of e) ≡ false → AreAsked chest chest (edits_of edits) []
one_asks_none chest edits e is plain =
    no_filters-asked chest (edits_of edits)
    (ap (λ (es : List calls.Edit). filter_count (edits_of es)) is ∙ ap (λ b. cond b 1 0 + 0) plain)

pub stops_alone : (old : At) (edits : List calls.Edit) (e : calls.Edit) (cause : EditRefused) → edits ≡ e ∷ []
    → refusal old.document (edit_of e) ≡ Some cause → apply_group old (edits_of edits) [] ≡ Err (record { index = 0; cause = cause })
stops_alone old edits e cause is why =
    subst (λ (es : List calls.Edit). apply_group old (edits_of es) [] ≡ Err (record { index = 0; cause = cause })) (sym is)
    (refused_alone old (edit_of e) cause why)
