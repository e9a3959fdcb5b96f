-- The lines of a script that is viewed, of which some were taken and some are left.
use Rattle.std.proofs.Common.{◌≡◌, ℕ, List, [], ◌∷◌, length, map, Some, refl, ap, sym, ◌∙◌, subst}
use Rattle.std.specs.Prelude.{IsSome, Option, None}
use Rattle.std.specs.List.{AllByRecursion}
use Rattle.spec_filters.specs.declared.FilterState.{FilterState}
use Rattle.spec_history.specs.History.{Entry, next_index}
use Rattle.spec_script.specs.Fits.{AreFit}
use Rattle.spec_view.specs.Script.{IsViewedLine}
use Rattle.xl_history.specs.Editing.{Editing}
use Rattle.xl_history.specs.History.{History}
use Rattle.xl_script.specs.Lines.{line_of, lines_of}
use Rattle.xl_script.specs.declared.script.Line.{Line}
use Rattle.xl_window.specs.Viewing.{GoesOn}
use Rattle.xl_play.specs.Playing.{IsBetweenLines, IsMade, lines_in}
use Rattle.xl_run.specs.Opening.{KeepsExactly}
use Rattle.xl_play.specs.Windows.{AreShown}
use Rattle.xl_play.proofs.UnderWay.{IsUnderWay, under_way_none, under_way_more}
use Rattle.xl_play.proofs.Windowed.{shown_none}

-- as it is of any script, with the lines of windows, a viewer that has seen no later history, and the shelf as it was handed in
pub record IsViewUnderWay {D : Type 0} (filters : List FilterState) (start : Editing D) (all left : List Line) (cols rows index : ℕ)
    (chest : List (Option FilterState)) (core : Editing D) (seen : Option History) (out : List ℕ) : Type 0 where
  pub way : IsUnderWay filters start all left index chest core (lines_in core.history.base core.history.entries)
  pub viewed : AllByRecursion IsViewedLine (lines_of left)
  pub shown : AreShown core.history.base core.history.entries cols rows out
  pub goes : GoesOn seen core.history
  pub shelf : core.shelf ≡ start.shelf

module _ {D : Type 0} where
  pub view_none : (filters : List FilterState) (core : Editing D) (all left : List Line) (cols rows index : ℕ)
      (chest : List (Option FilterState)) (seen : Option History) (out : List ℕ) → chest ≡ map (λ s. Some s) filters
      → core.history.entries ≡ [] → index ≡ 0 → IsSome core.shelf → KeepsExactly core → out ≡ [] → seen ≡ None
      → AreFit (length filters) [] (lines_of all) → AllByRecursion IsViewedLine (lines_of all) → left ≡ all
      → IsViewUnderWay filters core all left cols rows index chest core seen out
  view_none filters core all left cols rows index chest seen out full fresh zero inside kept blank unseen fit viewed whole =
      let base = core.history.base in
      record {
        way = under_way_none filters core all left index chest (lines_in base core.history.entries) full fresh zero inside kept
            (ap (lines_in base) fresh) fit whole;
        viewed = subst (λ (ls : List Line). AllByRecursion IsViewedLine (lines_of ls)) (sym whole) viewed;
        shown =
            subst (λ (es : List Entry). AreShown base es cols rows out) (sym fresh)
            (subst (AreShown base [] cols rows) (sym blank) (shown_none base cols rows));
        goes = subst (λ s. GoesOn s core.history) (sym unseen) tt;
        shelf = refl;
      }

  module _ {filters : List FilterState} {start : Editing D} {all left : List Line} {cols rows index : ℕ}
      {chest : List (Option FilterState)} {old : Editing D} {seen : Option History} {out : List ℕ} (line : Line) (rest : List Line)
      (view : IsViewUnderWay filters start all left cols rows index chest old seen out)
      (turn : left ≡ line ∷ rest) where
    pub view_line : IsViewedLine (line_of line)
    view_line = (subst (λ (ls : List Line). AllByRecursion IsViewedLine (lines_of ls)) turn view.viewed).0

    pub view_more : (after_chest : List (Option FilterState)) (new : Editing D) (next : ℕ) (later : Option History) (more : List ℕ)
        → IsBetweenLines old.history.base old.opening new → new.shelf ≡ old.shelf
        → IsMade old.history 0 (line_of line) chest after_chest new.history
        → next ≡ next_index new.history.entries 0 → KeepsExactly new → GoesOn later new.history
        → AreShown new.history.base new.history.entries cols rows more
        → IsViewUnderWay filters start all rest cols rows next after_chest new later more
    view_more after_chest new next later more between same made next_is kept goes shown = record {
      way = under_way_more line rest view.way turn after_chest new next (lines_in new.history.base new.history.entries) between made
          next_is kept shown.played;
      viewed = (subst (λ (ls : List Line). AllByRecursion IsViewedLine (lines_of ls)) turn view.viewed).1;
      shown = shown;
      goes = goes;
      shelf = same ∙ view.shelf;
    }
