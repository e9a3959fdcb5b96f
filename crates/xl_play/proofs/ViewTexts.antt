-- The text of a script that is viewed.
use Rattle.std.proofs.Common.{◌≡◌, ℕ, List, [], ◌∷◌, ◌∙◌, length, map, ap, sym, subst}
use Rattle.std.specs.Prelude.{Vec, IfOk, OnOk, Result, Ok, Err, String, string_bytes}
use Rattle.std.specs.declared.alloc.AllocError.{AllocError}
use Rattle.std.specs.declared.alloc.Global.{Global}
use Rattle.std.proofs.lemmas.List.{length-map}
use Rattle.spec_document.specs.Document.{Document}
use Rattle.spec_filters.specs.declared.FilterState.{FilterState}
use Rattle.spec_history.specs.History.{Entry}
use Rattle.spec_script.specs.Fits.{AreFit, FitsFilters}
use Rattle.spec_script.specs.Script.{Line, list_at}
use Rattle.spec_text.specs.Text.{calls_along}
use Rattle.spec_view.specs.Text.{Views}
use Rattle.xl_filters.specs.Chests.{states_of}
use Rattle.xl_run.specs.Filters.{boxes_at}
use Rattle.xl_run.proofs.Boxes.{states_at}
use Rattle.xl_play.specs.Playing.{AreMade}
use Rattle.xl_play.specs.Windows.{AreShown}
use Rattle.xl_play.proofs.OfFirst.{first_list_fits}
use Rattle.xl_play.proofs.Plain.{mine_own}

-- the text of all lines
pub views : {B : Type 0} (state : B → FilterState) (base opened : Document) (lists : List (List Line)) (boxes : List (Vec B Global))
    (items : List B) (lines : List Line) (es : List Entry) (cols rows : ℕ) (out : List ℕ)
    → base ≡ opened → lines ≡ list_at lists 0 → items ≡ boxes_at boxes 0
    → AreShown base es cols rows out → AreMade (map state items) lines es
    → Views out opened (list_at lists 0) (list_at (states_of state boxes) 0) cols rows
views state base opened lists boxes items lines es cols rows out same own first shown made =
    let filters : map state items ≡ list_at (states_of state boxes) 0 = ap (map state) first ∙ sym (states_at state boxes 0) in
    let made_own : AreMade (list_at (states_of state boxes) 0) (list_at lists 0) es =
    subst (λ (ls : List Line). AreMade (list_at (states_of state boxes) 0) ls es) own
    (subst (λ (fs : List FilterState). AreMade fs lines es) filters made) in
    subst (λ (d : Document). Views out d (list_at lists 0) (list_at (states_of state boxes) 0) cols rows) same (
      es,
      record {
        legal = shown.played.legal;
        viewed = shown.viewed;
        calls = ap (λ (l : List Entry). calls_along l) (mine_own es 0 shown.played.own) ∙ made_own.calls;
        tables = made_own.tables;
        text = shown.text;
      },
    )

-- the text of a run, where there is one
pub script_views : {B : Type 0} (state : B → FilterState) (base opened : Document) (lists : List (List Line))
    (boxes : List (Vec B Global)) (items : List B) (lines : List Line) (es : List Entry) (cols rows : ℕ)
    (r : Result (String Global) AllocError)
    → base ≡ opened → lines ≡ list_at lists 0 → items ≡ boxes_at boxes 0
    → IfOk r (λ text. AreShown base es cols rows (string_bytes text)) → OnOk r (AreMade (map state items) lines es)
    → IfOk r (λ text. Views (string_bytes text) opened (list_at lists 0) (list_at (states_of state boxes) 0) cols rows)
script_views state base opened lists boxes items lines es cols rows (Ok text) same own first shown made =
    views state base opened lists boxes items lines es cols rows (string_bytes text) same own first shown made
script_views state base opened lists boxes items lines es cols rows (Err e) same own first shown made = tt

-- the first session's lines fit its filters
pub view_fits : {B : Type 0} (state : B → FilterState) (boxes : List (Vec B Global)) (lists : List (List Line))
    (items : List B) (lines : List Line) → FitsFilters (length (list_at (states_of state boxes) 0) ∷ []) lists
    → items ≡ boxes_at boxes 0 → lines ≡ list_at lists 0 → AreFit (length items) [] lines
view_fits state boxes lists items lines fits first own =
    let n = length (list_at (states_of state boxes) 0) in
    subst (λ (ls : List Line). AreFit (length items) [] ls) (sym own)
    (subst (λ (k : ℕ). AreFit k [] (list_at lists 0)) (ap length (states_at state boxes 0) ∙ lengths ∙ ap length (sym first))
    (first_list_fits (n ∷ []) lists fits.each))
  where
    lengths : length (map state (boxes_at boxes 0)) ≡ length (boxes_at boxes 0)
    lengths = length-map (boxes_at boxes 0) state
