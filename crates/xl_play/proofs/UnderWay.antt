-- The lines of session 0, of which some were played and some are left.
use Rattle.spec_history.specs.declared.TheConstants.{MAX_ENTRIES}
use Rattle.std.proofs.Common.{◌≡◌, ℕ, ◌+◌, ◌*◌, ◌≤◌, List, [], ◌∷◌, ◌++◌, length, refl, ap, sym, ◌∙◌, subst, arith}
use Rattle.std.proofs.Common.{◌⊎◌, inl, inr, append_assoc, append-nil, length-append, eq-eqb, cond, map}
use Rattle.std.specs.Prelude.{IsErr, IsSome, Bool, true, false, ◌==◌, ◌&&◌, not, Option, Some, Result, Ok, String}
use Rattle.std.specs.Prelude.{string_bytes}
use Rattle.std.specs.declared.alloc.Global.{Global}
use Rattle.std.proofs.lemmas.Result.{IfOk-from_err}
use Rattle.spec_document.specs.Document.{Document}
use Rattle.spec_history.specs.Machine.{Call, Reply}
use Rattle.spec_history.specs.History.{Entry, asked, ends, is_end_kind, next_index}
use Rattle.spec_history.proofs.Growing.{next_index-snoc}
use Rattle.spec_filters.specs.declared.FilterState.{FilterState}
use Rattle.spec_history.specs.Kept.{IsLegal}
use Rattle.spec_run.specs.Fronts.{AreBegun}
use Rattle.spec_run.proofs.Fronts.{none_begun}
use Rattle.spec_script.specs.Script as script
use Rattle.spec_script.specs.Fits.{AreFit, dropped_by}
use Rattle.spec_tables.specs.Tables.{HaveTables, expected_tables, filters_after, tables_in}
use Rattle.spec_tables.proofs.Chests.{some_list}
use Rattle.spec_tables.proofs.Made.{tables_made, filters_made}
use Rattle.spec_tables.specs.Agrees.{Agrees}
use Rattle.spec_text.specs.Text.{calls_of}
use Rattle.xl_history.specs.Editing.{Editing, start_of}
use Rattle.xl_history.specs.History.{History, with_call}
use Rattle.xl_script.specs.Lines.{line_of, lines_of}
use Rattle.xl_script.specs.declared.script.Line.{Line}
use Rattle.xl_run.specs.Filters.{FitsChest}
use Rattle.xl_play.specs.Playing.{AreLinesPlayed, AreMade, AreOf, ArePlayed, CanPlay, IsCalled, IsBetweenLines, IsMade, IsOpened}
use Rattle.xl_play.specs.Playing.{with_save}
use Rattle.xl_ports.specs.State.{ShelfState}
use Rattle.xl_play.proofs.Lined.{no_ok}
use Rattle.xl_run.specs.Opening.{KeepsExactly}
use Rattle.spec_text.specs.Text.{calls_along}
use Rattle.xl_play.proofs.Plain.{both_own, filters_now, filters_more, tables_more}
use Rattle.xl_play.proofs.Chests.{full_stocked}
use Rattle.xl_run.proofs.Boxes.{full_agrees}
use Rattle.xl_run.proofs.Chests.{IsStocked, line_fits, stocked_after, agrees_without, stocked_without}
use Rattle.xl_play.proofs.Grown.{calls_behind, played_none}

-- ---- indices

pub one_index : (es : List Entry) (e : Entry) → is_end_kind e.kind ≡ false
    → next_index (es ++ e ∷ []) e.session ≡ next_index es e.session + 1
one_index es e is =
    let counts : (e.session == e.session && not (is_end_kind e.kind)) ≡ true = rw (is, eq-eqb e.session e.session refl) refl in
    next_index-snoc es e e.session ∙ ap (λ (b : Bool). next_index es e.session + cond b 1 0) counts

no_index : (es : List Entry) (e : Entry) (session : ℕ) → is_end_kind e.kind ≡ true
    → next_index (es ++ e ∷ []) session ≡ next_index es session
no_index es e session is =
    let counts : (e.session == session && not (is_end_kind e.kind)) ≡ false = rw is (never (e.session == session)) in
    next_index-snoc es e session ∙ ap (λ (b : Bool). next_index es session + cond b 1 0) counts ∙ omega arith where
      never : (b : Bool) → (b && false) ≡ false
      never true = refl
      never false = refl

-- ---- one line more

-- What a line adds where the chest agrees with these filters: two entries at most, for its call if it is one; and what it leaves of
-- the chest.
pub record IsOneMore (session : ℕ) (now : List FilterState) (old new : History) (before after : List (Option FilterState))
    (line : script.Line) : Type 0 where
  pub base_is : new.base ≡ old.base
  pub more : List Entry
  pub entries : new.entries ≡ old.entries ++ more
  pub own : AreOf session more
  pub calls : calls_along more ≡ calls_of (line ∷ [])
  pub tables : (filters : List FilterState) (earlier : List Entry) → now ≡ filters_now filters earlier → HaveTables filters earlier
      → HaveTables filters (earlier ++ more)
  pub agrees : (filters : List FilterState) (earlier : List Entry) → now ≡ filters_now filters earlier
      → Agrees after (filters_now filters (earlier ++ more))
  pub stocked : (given : ℕ) (dropped : List ℕ) → IsStocked given dropped before → IsStocked given (dropped_by dropped line) after
  pub index : next_index new.entries session ≡ next_index old.entries session + length (calls_of (line ∷ []))
  pub few : length new.entries ≤ length old.entries + 2 * length (calls_of (line ∷ []))

-- an entry without tables, which leaves the filters as they are
no_tables : (filters : List FilterState) (earlier : List Entry) (e : Entry) → HaveTables filters earlier → tables_in e.kind ≡ []
    → expected_tables (filters_now filters earlier) e.kind e.reply ≡ [] → HaveTables filters (earlier ++ e ∷ [])
no_tables filters earlier e have none expected = tables_more filters earlier e have (none ∙ sym expected)

-- which tables are expected is not asked of the tables
same_tables : (filters : List FilterState) (c : Call) (tables others : List (List ℕ)) (reply : Reply)
    → expected_tables filters (asked c tables) reply ≡ expected_tables filters (asked c others) reply
same_tables filters c tables others reply = tables_made filters c tables reply ∙ sym (tables_made filters c others reply)

pub made_one : (session : ℕ) (now : List FilterState) (old new : History) (before after : List (Option FilterState))
    (line : script.Line) → Agrees before now → IsMade old session line before after new
    → IsOneMore session now old new before after line
made_one session now old new before after (script.call c) agrees made =
    let tables : List (List ℕ) = expected_tables now (asked c []) made.reply in
    let grown : new ≡ with_call old session c tables made.reply = made.grown now agrees in
    let e : Entry =
    record { session = session; index = next_index old.entries session; kind = asked c tables; reply = made.reply } in
    let es : new.entries ≡ old.entries ++ e ∷ [] = ap (λ (h : History). h.entries) grown in
    let longer = ap length es ∙ length-append old.entries (e ∷ []) in
    record {
      base_is = ap (λ (h : History). h.base) grown;
      more = e ∷ [];
      entries = es;
      own = (refl, tt);
      calls = refl;
      tables = λ filters earlier is have.
          tables_more filters earlier e have
          (same_tables now c [] tables made.reply ∙ ap (λ fs. expected_tables fs (asked c tables) made.reply) is);
      agrees = λ filters earlier is.
          subst (Agrees after)
          (sym (filters_made now c tables made.reply) ∙ ap (λ fs. filters_after fs (asked c tables) made.reply) is
          ∙ sym (filters_more filters earlier (e ∷ [])))
          (made.used.states now agrees);
      stocked = λ given dropped stocked. stocked_after given dropped before after made.used.slots stocked;
      index = ap (λ (l : List Entry). next_index l session) es ∙ one_index old.entries e refl;
      few = omega (arith, longer);
    }
made_one session now old new before after script.save agrees (made, same) =
    let s : Entry = start_of old session in
    let e : Entry = record { session = session; index = next_index old.entries session; kind = ends; reply = made.0 } in
    let es : new.entries ≡ old.entries ++ s ∷ e ∷ [] = ap (λ (h : History). h.entries) made.1 in
    let longer = ap length es ∙ length-append old.entries (s ∷ e ∷ []) in
    record {
      base_is = ap (λ (h : History). h.base) made.1;
      more = s ∷ e ∷ [];
      entries = es;
      own = (refl, (refl, tt));
      calls = refl;
      tables = λ filters earlier is have.
          subst (HaveTables filters) (append_assoc earlier (s ∷ []) (e ∷ []))
          (no_tables filters (earlier ++ s ∷ []) e (no_tables filters earlier s have refl refl) refl refl);
      agrees = λ filters earlier is.
          subst (Agrees after) (is ∙ sym (filters_more filters earlier (s ∷ e ∷ [])))
          (subst (λ chest. Agrees chest now) (sym same) agrees);
      stocked = λ given dropped stocked. subst (IsStocked given dropped) (sym same) stocked;
      index =
          ap (λ (l : List Entry). next_index l session) (es ∙ sym (append_assoc old.entries (s ∷ []) (e ∷ [])))
          ∙ no_index (old.entries ++ s ∷ []) e session refl
          ∙ one_index old.entries s refl;
      few = omega (arith, longer);
    }
made_one session now old new before after (script.forget slot) agrees (same, without) =
    let es : new.entries ≡ old.entries = ap (λ (h : History). h.entries) same in
    let longer = ap length es in
    let index : next_index new.entries session ≡ next_index old.entries session =
    ap (λ (l : List Entry). next_index l session) es in
    record {
      base_is = ap (λ (h : History). h.base) same;
      more = [];
      entries = es ∙ sym (append-nil old.entries);
      own = tt;
      calls = refl;
      tables = λ filters earlier is have. subst (HaveTables filters) (sym (append-nil earlier)) have;
      agrees = λ filters earlier is.
          subst (Agrees after) (is ∙ ap (filters_now filters) (sym (append-nil earlier)))
          (subst (λ chest. Agrees chest now) (sym without) (agrees_without before now slot agrees));
      stocked =
          λ given dropped stocked.
          subst (IsStocked given (dropped ++ slot ∷ [])) (sym without) (stocked_without given dropped before slot stocked);
      index = omega (arith, index);
      few = omega (arith, longer);
    }

-- the index of the next call
pub called_next : (session : ℕ) (old new : History) (before after : List (Option FilterState)) (c : Call)
    → IsCalled old session c before after new
    → next_index new.entries session ≡ next_index old.entries session + 1
called_next session old new before after c called =
    let some = some_list before in
    (made_one session some.0 old new before after (script.call c) some.1 called).index

-- and after a save
pub saved_next : (old new : History) (reply : Reply) → new ≡ with_save old 0 reply
    → next_index new.entries 0 ≡ next_index old.entries 0 + 1
saved_next old new reply saved = (made_one 0 [] old new [] [] script.save tt ((reply, saved), refl)).index

-- ---- along the lines

calls_split : (line : script.Line) (lines : List script.Line) → calls_of (line ∷ lines) ≡ calls_of (line ∷ []) ++ calls_of lines
calls_split (script.call c) lines = refl
calls_split script.save lines = refl
calls_split (script.forget slot) lines = refl

-- the entries so far are those of the lines so far, and the lines that are left may be played
pub record IsUnderWay {D : Type 0} (filters : List FilterState) (start : Editing D) (all left : List Line) (index : ℕ)
    (chest : List (Option FilterState)) (core : Editing D) (out : List ℕ) : Type 0 where
  pub index_is : index ≡ next_index core.history.entries 0
  pub between : IsBetweenLines start.history.base start.opening core
  pub calls : calls_along core.history.entries ++ calls_of (lines_of left) ≡ calls_of (lines_of all)
  pub tables : HaveTables filters core.history.entries
  pub agrees : Agrees chest (filters_now filters core.history.entries)
  pub few : length core.history.entries + 2 * length (calls_of (lines_of left)) ≤ 2 * length (calls_of (lines_of all))
  pub dropped : List ℕ
  pub stocked : IsStocked (length filters) dropped chest
  pub fit : AreFit (length filters) dropped (lines_of left)
  pub kept : KeepsExactly core
  pub played : ArePlayed core.history.base core.history.entries out

no_more : (lines : List Line) → length lines ≡ 0 → lines ≡ []
no_more [] none = refl
no_more (line ∷ lines) none = absurd (omega (arith, none))

module _ {D : Type 0} where
  pub under_way_none : (filters : List FilterState) (core : Editing D) (all left : List Line) (index : ℕ)
      (chest : List (Option FilterState)) (out : List ℕ) → chest ≡ map (λ s. Some s) filters
      → core.history.entries ≡ [] → index ≡ 0 → IsSome core.shelf → KeepsExactly core → out ≡ []
      → AreFit (length filters) [] (lines_of all) → left ≡ all → IsUnderWay filters core all left index chest core out
  under_way_none filters core all left index chest out full fresh zero inside kept blank fit whole =
      let base = core.history.base in
      let none : length core.history.entries ≡ 0 = ap length fresh in
      let played : ArePlayed base core.history.entries out =
      subst (λ (es : List Entry). ArePlayed base es out) (sym fresh) (subst (ArePlayed base []) (sym blank) (played_none base)) in
      subst (λ (ls : List Line). IsUnderWay filters core all ls index chest core out) (sym whole)
      (record {
        index_is = zero ∙ sym (ap (λ (es : List Entry). next_index es 0) fresh);
        between = record { base_is = refl; opening_is = refl; inside = inside; legal = played.legal };
        calls = ap (λ (es : List Entry). calls_along es ++ calls_of (lines_of all)) fresh;
        tables = subst (HaveTables filters) (sym fresh) tt;
        agrees = subst (λ (es : List Entry). Agrees chest (filters_now filters es)) (sym fresh)
            (subst (λ slots. Agrees slots filters) (sym full) (full_agrees filters));
        few = omega (arith, none);
        dropped = [];
        stocked = subst (IsStocked (length filters) []) (sym full) (full_stocked filters);
        fit = fit;
        kept = kept;
        played = played;
      })

  -- one line more is still between lines
  still_between : {base : Document} {opening : D} {old : Editing D} (new : Editing D) → IsBetweenLines base opening old
      → IsBetweenLines old.history.base old.opening new → IsBetweenLines base opening new
  still_between new before after = record {
    base_is = after.base_is ∙ before.base_is;
    opening_is = after.opening_is ∙ before.opening_is;
    inside = after.inside;
    legal = after.legal;
  }

  stopped : {E : Type 0} (filters : List FilterState) (start new : Editing D) (lines : List script.Line)
      (result : Result (String Global) E) → IsErr result → IsBetweenLines start.history.base start.opening new
      → AreOf 0 new.history.entries → AreBegun filters lines new.history.entries → AreLinesPlayed result start new filters lines
  stopped filters start new lines result err between own begun = record {
    between = between;
    own = own;
    begun = begun;
    made = no_ok (AreMade filters lines new.history.entries) result err;
    played = IfOk-from_err result (λ text. ArePlayed new.history.base new.history.entries (string_bytes text)) err;
  }

  -- before the first line
  pub none_played : {E : Type 0} (filters : List FilterState) (core : Editing D) (lines : List script.Line) (see : D → ShelfState)
      (result : Result (String Global) E) → IsErr result → IsOpened see core → AreLinesPlayed result core core filters lines
  none_played filters core lines see result err opened =
      let base = core.history.base in
      stopped filters core core lines result err
      (record {
        base_is = refl;
        opening_is = refl;
        inside = opened.inside;
        legal = subst (IsLegal base) (sym opened.fresh) (played_none base).legal;
      })
      (subst (AreOf 0) (sym opened.fresh) tt)
      (subst (AreBegun filters lines) (sym opened.fresh) (none_begun filters lines))

  module _ {filters : List FilterState} {start : Editing D} {all left : List Line} {index : ℕ}
      {chest : List (Option FilterState)} {old : Editing D} {out : List ℕ} (line : Line) (rest : List Line)
      (way : IsUnderWay filters start all left index chest old out)
      (turn : left ≡ line ∷ rest) where
    pub under_way_fit : FitsChest chest (line_of line)
    under_way_fit =
        line_fits (length filters) way.dropped chest (line_of line) way.stocked
        (subst (λ (ls : List Line). AreFit (length filters) way.dropped (lines_of ls)) turn way.fit).0

    -- there is room for the entries of a line
    pub under_way_free : 2 * length (calls_of (lines_of all)) ≤ MAX_ENTRIES
        → length old.history.entries + 2 * length (calls_of (line_of line ∷ [])) ≤ MAX_ENTRIES
    under_way_free room =
        let few = way.few in
        let split =
        ap (λ (ls : List Line). length (calls_of (lines_of ls))) turn ∙ ap length (calls_split (line_of line) (lines_of rest))
        ∙ length-append (calls_of (line_of line ∷ [])) (calls_of (lines_of rest)) in
        omega arith

    -- with the line the calls so far are those of one line more
    calls_more : {after_chest : List (Option FilterState)} {new : History}
        → IsOneMore 0 (filters_now filters old.history.entries) old.history new chest after_chest (line_of line)
        → calls_along new.entries ++ calls_of (lines_of rest) ≡ calls_of (lines_of all)
    calls_more one =
        let es = old.history.entries in
        ap (λ (ls : List script.Line). ls ++ calls_of (lines_of rest))
        (ap (λ (l : List Entry). calls_along l) one.entries ∙ calls_behind es one.more
        ∙ ap (λ (ls : List script.Line). calls_along es ++ ls) one.calls)
        ∙ append_assoc (calls_along es) (calls_of (line_of line ∷ [])) (calls_of (lines_of rest))
        ∙ ap (λ (ls : List script.Line). calls_along es ++ ls) (sym (calls_split (line_of line) (lines_of rest)))
        ∙ ap (λ (ls : List Line). calls_along es ++ calls_of (lines_of ls)) (sym turn)
        ∙ way.calls

    pub under_way_more : (after_chest : List (Option FilterState)) (new : Editing D) (next : ℕ) (more : List ℕ)
        → IsBetweenLines old.history.base old.opening new → IsMade old.history 0 (line_of line) chest after_chest new.history
        → next ≡ next_index new.history.entries 0 → KeepsExactly new → ArePlayed new.history.base new.history.entries more
        → IsUnderWay filters start all rest next after_chest new more
    under_way_more after_chest new next more after made next_is kept played =
        let es = old.history.entries in
        let one = made_one 0 (filters_now filters es) old.history new.history chest after_chest (line_of line) way.agrees made in
        let split = calls_split (line_of line) (lines_of rest) in
        let counts =
        ap (λ (ls : List Line). length (calls_of (lines_of ls))) turn ∙ ap length split
        ∙ length-append (calls_of (line_of line ∷ [])) (calls_of (lines_of rest)) in
        let so_far = way.few in
        let longer = one.few in
        record {
          index_is = next_is;
          between = still_between new way.between after;
          calls = calls_more one;
          tables = subst (HaveTables filters) (sym one.entries) (one.tables filters es refl way.tables);
          agrees = subst (λ (l : List Entry). Agrees after_chest (filters_now filters l)) (sym one.entries)
              (one.agrees filters es refl);
          few = omega arith;
          dropped = dropped_by way.dropped (line_of line);
          stocked = one.stocked (length filters) way.dropped way.stocked;
          fit = (subst (λ (ls : List Line). AreFit (length filters) way.dropped (lines_of ls)) turn way.fit).1;
          kept = kept;
          played = played;
        }

    pub under_way_can : (see : D → ShelfState) → IsSome (see start.opening).selected
        → 2 * length (calls_of (lines_of all)) ≤ MAX_ENTRIES
        → CanPlay see (2 * length (calls_of (line_of line ∷ []))) old index out
    under_way_can see selected room = record {
      played = way.played;
      inside = way.between.inside;
      selected = subst (λ (o : D). IsSome (see o).selected) (sym way.between.opening_is) selected;
      index_is = way.index_is;
      few = under_way_free room;
      kept = way.kept;
    }

    -- Where the run stops in the line, nothing of it was made or all.
    pub lines_cut : (after_chest : List (Option FilterState)) (new : Editing D) {E : Type 0} (result : Result (String Global) E)
        → IsErr result → IsBetweenLines old.history.base old.opening new
        → (new.history ≡ old.history) ⊎ IsMade old.history 0 (line_of line) chest after_chest new.history
        → AreLinesPlayed result start new filters (lines_of all)
    lines_cut after_chest new result err after (inl same) =
        let es : new.history.entries ≡ old.history.entries = ap (λ (h : History). h.entries) same in
        stopped filters start new (lines_of all) result err (still_between new way.between after)
        (subst (AreOf 0) (sym es) way.played.own)
        (subst (AreBegun filters (lines_of all)) (sym es)
        (record { calls = (calls_of (lines_of left), way.calls); tables = way.tables }))
    lines_cut after_chest new result err after (inr made) =
        let es = old.history.entries in
        let one = made_one 0 (filters_now filters es) old.history new.history chest after_chest (line_of line) way.agrees made in
        stopped filters start new (lines_of all) result err (still_between new way.between after)
        (subst (AreOf 0) (sym one.entries) (both_own es one.more 0 way.played.own one.own))
        (record {
          calls = (calls_of (lines_of rest), calls_more one);
          tables = subst (HaveTables filters) (sym one.entries) (one.tables filters es refl way.tables);
        })

  pub under_way_all : {filters : List FilterState} {start : Editing D} {all left : List Line} {index : ℕ}
      {chest : List (Option FilterState)} {core : Editing D} {out : List ℕ}
      → IsUnderWay filters start all left index chest core out → length left ≡ 0
      → AreMade filters (lines_of all) core.history.entries
  under_way_all {left = left} {core = core} way none = record {
    calls =
        sym (append-nil (calls_along core.history.entries))
        ∙ ap (λ (ls : List Line). calls_along core.history.entries ++ calls_of (lines_of ls)) (sym (no_more left none)) ∙ way.calls;
    tables = way.tables;
  }

  -- at the end, with the text so far
  pub lines_played : {filters : List FilterState} {start : Editing D} {all left : List Line} {index : ℕ}
      {chest : List (Option FilterState)} {core : Editing D} {out : List ℕ} {E : Type 0}
      → IsUnderWay filters start all left index chest core out → (text : String Global) → length left ≡ 0 → string_bytes text ≡ out
      → AreLinesPlayed {E = E} (Ok text) start core filters (lines_of all)
  lines_played {core = core} way text none is =
      let all_made = under_way_all way none in
      record {
        between = way.between;
        own = way.played.own;
        begun = record { calls = ([], append-nil (calls_along core.history.entries) ∙ all_made.calls); tables = all_made.tables };
        made = all_made;
        played = subst (ArePlayed core.history.base core.history.entries) (sym is) way.played;
      }
