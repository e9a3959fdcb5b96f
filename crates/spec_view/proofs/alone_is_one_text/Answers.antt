use Rattle.std.proofs.Common.{◌≡◌, ℕ, List, [], ◌∙◌, sym, ap, subst, lit<}
use Rattle.std.specs.Prelude.{slice_get, unwrap_or}
use Rattle.std.specs.List.{AllByRecursion}
use Rattle.spec_document.specs.Document.{Document}
use Rattle.spec_filters.specs.declared.FilterState.{FilterState}
use Rattle.spec_history.specs.Machine.{initial}
use Rattle.spec_history.specs.History.{Entry}
use Rattle.spec_script.specs.Script.{Line}
use Rattle.spec_tables.specs.Tables.{HaveTables}
use Rattle.spec_text.specs.Text.{calls_of, printed, IsTextOf, AreAlone}
use Rattle.spec_view.proofs.Entries.{lines_of, all_mine, IsRest, one_rest}
use Rattle.spec_view.proofs.alone_is_one_text.Goals as goal

whole : (base : Document) (scripts : List (List Line)) (chests : List (List FilterState)) (out : List ℕ) (es : List Entry)
    → IsTextOf out base scripts chests es → AllByRecursion (λ e. e.session ≡ 0) es → AreAlone base [] es
    → IsRest base (initial base) [] (unwrap_or (slice_get chests 0) []) es
whole base scripts chests out es text first alone =
    let P : List Entry → Type 0 = λ xs. HaveTables (unwrap_or (slice_get chests 0) []) xs in
    record {
      run = text.legal.run;
      first = first;
      tables = subst P (all_mine es first) (text.tables 0 (lit< tt));
      alone = alone;
      owed = tt;
    }

called : (base : Document) (scripts : List (List Line)) (chests : List (List FilterState)) (out : List ℕ) (es : List Entry)
    → IsTextOf out base scripts chests es → AllByRecursion (λ e. e.session ≡ 0) es
    → lines_of es ≡ calls_of (unwrap_or (slice_get scripts 0) [])
called base scripts chests out es text first = ap lines_of (sym (all_mine es first)) ∙ text.calls 0 (lit< tt)

pub returns : goal.returns
returns c = λ base scripts chests a b this that.
    let same : this.0 ≡ that.0 = one_rest base (initial base) [] (unwrap_or (slice_get chests 0) []) this.0 that.0
    (called base scripts chests a this.0 this.1 this.2 ∙ sym (called base scripts chests b that.0 that.1 that.2))
    (whole base scripts chests a this.0 this.1 this.2 this.3) (whole base scripts chests b that.0 that.1 that.2 that.3) in
    this.1.text ∙ (ap (printed base) same ∙ sym that.1.text)
