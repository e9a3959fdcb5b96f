-- A talk under way, from its first line to its last.
use Rattle.std.proofs.Common.{◌≡◌, inl, inr, ℕ, ◌+◌, ◌≤◌, ◌^◌, true, false, List, [], ◌∷◌, ◌++◌, length, map, refl, sym, ap, ◌∙◌, subst, arith, append_assoc, append-nil, length-append}
use Rattle.std.specs.Prelude.{Option, Some, None, IfSome, option_map, take, Result, Ok, Err, OnOk, OnErr, IfErr, MatchResult}
use Rattle.std.proofs.lemmas.List.{take-append-le}
use Rattle.std.proofs.Math.Seq.{take-append-add}
use Rattle.spec_document.specs.Document.{Document}
use Rattle.spec_filters.specs.declared.FilterState.{FilterState}
use Rattle.spec_history.specs.History.{Entry, mine}
use Rattle.spec_history.specs.Kept.{IsLegal, IsFresh}
use Rattle.spec_script.specs.Script.{list_at}
use Rattle.spec_script.specs.Words.{lines_of}
use Rattle.spec_script.specs.declared.TheConstants.{MAX_SCRIPT_BYTES}
use Rattle.spec_serve.specs.Hearing.{Hearing, hear, start_hearing}
use Rattle.spec_serve.specs.Said.{Said, all_said, entries_of, told_text, texts_in, AreSaid}
use Rattle.spec_serve.specs.Talk.{IsTurn, IsTalk}
use Rattle.spec_serve.proofs.Stays.{told_stays}
use Rattle.spec_tables.specs.Tables.{HaveTables}
use Rattle.xl_history.specs.Editing.{Editing}
use Rattle.xl_history.specs.History.{History}
use Rattle.xl_serve.specs.Played.{GoesOn}
use Rattle.xl_lines.specs.Lines.{IsNext, IsLonger}
use Rattle.xl_ports.specs.Faults.{Rose}
use Rattle.xl_ports.specs.Sink.{appended, WritesAll, WritesPart}
use Rattle.xl_ports.specs.Source.{led_by}
use Rattle.xl_serve.specs.Serving.{Now, Stands, StandsOn, Answers, IsCutAt}
use Rattle.xl_serve.specs.Standing.{heard_from}
use Rattle.xl_serve.specs.Talked.{AreFirst, AreAll, IsTooLong, IsCutTalk}
use Rattle.xl_serve.specs.Talking.{WhyNone, HasSaid, LinesGo, IsUnderWay}
use Rattle.xl_serve.specs.declared.ends.TalkEnd.{TalkEnd}
use Rattle.xl_serve.specs.declared.ends.TalkEnd.TheVariants.{Ended, TooLong, SourceFault, SinkFault, Memory, NotBegun}
use Rattle.xl_serve.proofs.Turns.{all_more}

-- ---- lines

no_lines : (left : Option (List ℕ)) → LinesGo [] left (led_by [] left)
no_lines None = refl
no_lines (Some bytes) = refl

go_lines : (lines : List (List ℕ)) (line : List ℕ) (after : Option (List (List ℕ)))
    → option_map (λ more. lines ++ more) (option_map (λ (ls : List (List ℕ)). line ∷ ls) after)
    ≡ option_map (λ more. (lines ++ line ∷ []) ++ more) after
go_lines lines line None = refl
go_lines lines line (Some ls) = ap Some (sym (append_assoc lines (line ∷ []) ls))

line_more : (lines : List (List ℕ)) (line : List ℕ) (left before after : Option (List ℕ)) → LinesGo lines left before
    → IsNext true line (option_map lines_of before) (option_map lines_of after) → LinesGo (lines ++ line ∷ []) left after
line_more lines line left before after go next =
    go ∙ ap (option_map (λ more. lines ++ more)) next ∙ go_lines lines line (option_map lines_of after)

are_first : (lines : List (List ℕ)) (left unread : Option (List ℕ)) → LinesGo lines left unread → AreFirst lines left
are_first lines None unread go = tt
are_first lines (Some bytes) None go = let bad : Some (lines_of bytes) ≡ None = go in cc
are_first lines (Some bytes) (Some more) go =
    let same : lines_of bytes ≡ lines ++ lines_of more = cc in (lines_of more, sym same)

are_all : (lines : List (List ℕ)) (left unread : Option (List ℕ)) → LinesGo lines left unread
    → IfSome (option_map lines_of unread) (λ ls. ls ≡ []) → AreAll lines left
are_all lines None unread go none = tt
are_all lines (Some bytes) None go none = let bad : Some (lines_of bytes) ≡ None = go in cc
are_all lines (Some bytes) (Some more) go none =
    let same : lines_of bytes ≡ lines ++ lines_of more = cc in
    same ∙ ap (λ (ls : List (List ℕ)). lines ++ ls) none ∙ append-nil lines

too_long : (lines : List (List ℕ)) (left unread : Option (List ℕ)) → LinesGo lines left unread → IsLonger MAX_SCRIPT_BYTES unread
    → IsTooLong lines left
too_long lines None unread go longer = inr tt
too_long lines (Some bytes) None go longer = let bad : Some (lines_of bytes) ≡ None = go in cc
too_long lines (Some bytes) (Some more) go longer =
    let same : lines_of bytes ≡ lines ++ lines_of more = cc in inr (more, same, longer.0, longer.1)

-- ---- a talk

pub goes_then : {D : Type 0} (first mid last : Editing D) → GoesOn first mid → GoesOn mid last → GoesOn first last
goes_then first mid last one two = record {
  ready = two.ready;
  base_is = two.base_is ∙ one.base_is;
  opening_is = two.opening_is ∙ one.opening_is;
  longer = (
    one.longer.0 ++ two.longer.0,
    sym (append_assoc first.history.entries one.longer.0 two.longer.0)
        ∙ ap (λ (es : List Entry). es ++ two.longer.0) one.longer.1 ∙ two.longer.1,
  );
}

talk_of : (base : Document) (filters : List (List FilterState)) (lines : List (List ℕ)) (turns : List (List Said)) (now : Now)
    → Stands base filters lines turns now → IsLegal now.history.base now.history.entries → IsTalk base filters lines turns
talk_of base filters lines turns now stands legal = record {
  turn = stands.turn;
  legal = subst (IsLegal base) stands.entries (subst (λ b. IsLegal b now.history.entries) stands.base_is legal);
  said = stands.said;
  fresh = λ session lt. subst (λ es. IsFresh es session) stands.entries (stands.seated session lt).fresh;
  tables = λ session lt.
      subst (λ es. HaveTables (list_at filters session) (mine es session)) stands.entries (stands.seated session lt).tables;
}

told_more : (base : Document) (filters : List (List FilterState)) (lines : List (List ℕ)) (turns : List (List Said)) (last : List Said)
    (now : Now) → Stands base filters lines (turns ++ last ∷ []) now → IsLegal now.history.base now.history.entries
    → told_text base (all_said turns) ++ texts_in now.history.base now.history.entries last
    ≡ told_text base (all_said (turns ++ last ∷ []))
told_more base filters lines turns last now stands legal =
    let whole = all_more turns last in
    let es : now.history.entries ≡ entries_of (all_said turns ++ last) = stands.entries ∙ ap entries_of whole in
    let own = subst (IsLegal base) es (subst (λ b. IsLegal b now.history.entries) stands.base_is legal) in
    ap (λ (h : History). told_text base (all_said turns) ++ texts_in h.base h.entries last)
    (λ i. record { base = stands.base_is i; entries = es i })
    ∙ sym (ap (told_text base) whole ∙ told_stays base (all_said turns) last own (subst (AreSaid base []) whole stands.said))

module _ {K : Type 0} (held : K → Option (List ℕ)) (faults : K → ℕ) where
  -- ---- what is written

  appended_more : (before : Option (List ℕ)) (a b : List ℕ) → appended (appended before a) b ≡ appended before (a ++ b)
  appended_more None a b = refl
  appended_more (Some bytes) a b = ap Some (append_assoc bytes a b)

  appended_none : (before : Option (List ℕ)) → before ≡ appended before []
  appended_none None = refl
  appended_none (Some bytes) = ap Some (sym (append-nil bytes))

  pub writes_more : (old mid new : K) (a b : List ℕ) → WritesAll held faults old mid a → WritesAll held faults mid new b
      → WritesAll held faults old new (a ++ b)
  writes_more old mid new a b first then = record {
    holds = then.holds ∙ ap (λ (h : Option (List ℕ)). appended h b) first.holds ∙ appended_more (held old) a b;
    no_fault = then.no_fault ∙ first.no_fault;
  }

  pub writes_none : (k : K) → WritesAll held faults k k []
  writes_none k = record { holds = appended_none (held k); no_fault = refl }

  pub moves_none : (k : K) (out : List ℕ) → (first : List ℕ) × (out ≡ first ++ out) × WritesAll held faults k k first
  moves_none k out = ([], refl, writes_none k)

  pub writes_part : (old mid new : K) (a b : List ℕ) → WritesAll held faults old mid a → WritesPart held faults mid new b
      → WritesPart held faults old new (a ++ b)
  writes_part old mid new a b first then =
      let long = length-append a b in
      let le = then.within in
      record {
        count = length a + then.count;
        within = omega (arith, long, le);
        holds = then.holds ∙ ap (λ (h : Option (List ℕ)). appended h (take then.count b)) first.holds
            ∙ appended_more (held old) a (take then.count b)
            ∙ ap (appended (held old)) (sym (take-append-add a b then.count));
        fault = subst (λ n. Rose n (faults new)) first.no_fault then.fault;
      }

  pub part_longer : (old new : K) (a b : List ℕ) → WritesPart held faults old new a → WritesPart held faults old new (a ++ b)
  part_longer old new a b part =
      let long = length-append a b in
      let le = part.within in
      record {
        count = part.count;
        within = omega (arith, long, le);
        holds = part.holds ∙ ap (appended (held old)) (sym (take-append-le part.count a b part.within));
        fault = part.fault;
      }

  -- ---- under way

  module _ (base : Document) (filters : List (List FilterState)) (left : Option (List ℕ)) (begun : K) where
    pub way_none : (out : List ℕ) (now : Now) → Stands base filters [] [] now → out ≡ told_text base []
        → IsUnderWay held faults base filters left begun begun out 1 (led_by [] left) now
    way_none out now stands told = record {
      lines = [];
      turns = [];
      stands = stands;
      number_is = refl;
      left_is = no_lines left;
      first = [];
      writes = writes_none begun;
      told = told;
    }

    pub way_begin : (ahead : List ℕ) (out : List ℕ) (now : Now) → ahead ≡ [] → Stands base filters [] [] now → out ≡ told_text base []
        → IsUnderWay held faults base filters left begun begun out 1 (led_by ahead left) now
    way_begin ahead out now none stands told =
        subst (λ (l : List ℕ). IsUnderWay held faults base filters left begun begun out 1 (led_by l left) now) (sym none)
        (way_none out now stands told)

    module _ (sink : K) (out : List ℕ) (number : ℕ) (unread : Option (List ℕ)) (now : Now)
        (way : IsUnderWay held faults base filters left begun sink out number unread now) where
      -- a fault of the sink
      pub way_fault : (new : K) (es : List Entry) → IsLegal now.history.base now.history.entries → es ≡ now.history.entries
          → WritesPart held faults sink new out → (kept : List ℕ) → HasSaid held faults base filters left begun new kept es SinkFault
      way_fault new es legal same part kept = record {
        lines = way.lines;
        turns = way.turns;
        talk = talk_of base filters way.lines way.turns now way.stands legal;
        first = are_first way.lines left unread way.left_is;
        stops = tt;
        entries = same ∙ way.stands.entries;
        kept = subst (WritesPart held faults begun new) way.told (writes_part begun sink new way.first out way.writes part);
      }

      -- what was kept moves to the sink
      pub way_moved : (new : K) (less : List ℕ) → (first : List ℕ) × (out ≡ first ++ less) × WritesAll held faults sink new first
          → IsUnderWay held faults base filters left begun new less number unread now
      way_moved new less moved = record {
        lines = way.lines;
        turns = way.turns;
        stands = way.stands;
        number_is = way.number_is;
        left_is = way.left_is;
        first = way.first ++ moved.0;
        writes = writes_more begun sink new way.first moved.0 way.writes moved.2;
        told = append_assoc way.first moved.0 less ∙ ap (λ (l : List ℕ). way.first ++ l) (sym moved.1) ∙ way.told;
      }

      -- no further line
      pub way_ended : (es : List Entry) (line : List ℕ) (after : Option (List (List ℕ))) → IsLegal now.history.base now.history.entries
          → es ≡ now.history.entries → IsNext false line (option_map lines_of unread) after
          → HasSaid held faults base filters left begun sink out es Ended
      way_ended es line after legal same none = record {
        lines = way.lines;
        turns = way.turns;
        talk = talk_of base filters way.lines way.turns now way.stands legal;
        first = are_first way.lines left unread way.left_is;
        stops = are_all way.lines left unread way.left_is none.0;
        entries = same ∙ way.stands.entries;
        kept = (way.first, way.writes, way.told);
      }

      -- memory ran out within a line
      way_memory : (es : List Entry) → IsLegal now.history.base now.history.entries
          → IsCutTalk filters way.lines left now.history.entries es → HasSaid held faults base filters left begun sink out es Memory
      way_memory es legal cut = record {
        lines = way.lines;
        turns = way.turns;
        talk = talk_of base filters way.lines way.turns now way.stands legal;
        first = are_first way.lines left unread way.left_is;
        stops = tt;
        entries = subst (λ said. IsCutTalk filters way.lines left said es) way.stands.entries cut;
        kept = (way.first, way.writes, way.told);
      }

      pub way_stopped : (es : List Entry) (end : TalkEnd) → IsLegal now.history.base now.history.entries
          → es ≡ now.history.entries → WhyNone number unread end
          → HasSaid held faults base filters left begun sink out es end
      way_stopped es Ended legal same why = absurd why
      way_stopped es SinkFault legal same why = absurd why
      way_stopped es NotBegun legal same why = absurd why
      way_stopped es (TooLong n) legal same why =
          let at = why.0 in
          let count = way.number_is in
          record {
            lines = way.lines;
            turns = way.turns;
            talk = talk_of base filters way.lines way.turns now way.stands legal;
            first = are_first way.lines left unread way.left_is;
            stops = (omega (arith, at, count), too_long way.lines left unread way.left_is why.1);
            entries = same ∙ way.stands.entries;
            kept = (way.first, way.writes, way.told);
          }
      way_stopped es SourceFault legal same why = record {
        lines = way.lines;
        turns = way.turns;
        talk = talk_of base filters way.lines way.turns now way.stands legal;
        first = are_first way.lines left unread way.left_is;
        stops = tt;
        entries = same ∙ way.stands.entries;
        kept = (way.first, way.writes, way.told);
      }
      way_stopped es Memory legal same why =
          way_memory es legal (inl same)

      -- the lines are as many as a talk may have
      pub way_full : (es : List Entry) (last : ℕ) → IsLegal now.history.base now.history.entries → es ≡ now.history.entries
          → number ≡ last → 2 ^ 32 ≤ last + 1 → HasSaid held faults base filters left begun sink out es (TooLong last)
      way_full es last legal same at many =
          let count = way.number_is in
          record {
            lines = way.lines;
            turns = way.turns;
            talk = talk_of base filters way.lines way.turns now way.stands legal;
            first = are_first way.lines left unread way.left_is;
            stops = (omega (arith, at, count), inl (omega (arith, at, count, many)));
            entries = same ∙ way.stands.entries;
            kept = (way.first, way.writes, way.told);
          }

      -- a line more
      pub way_more : (line text more : List ℕ) (after : Option (List ℕ)) (new : Now) (next : ℕ)
          → IsNext true line (option_map lines_of unread) (option_map lines_of after)
          → StandsOn base filters way.lines way.turns line text new → IsLegal new.history.base new.history.entries
          → more ≡ out ++ text → next ≡ number + 1 → IsUnderWay held faults base filters left begun sink more next after new
      way_more line text more after new next is on legal kept counted =
          let long = length-append way.lines (line ∷ []) in
          let count = way.number_is in
          record {
            lines = way.lines ++ line ∷ [];
            turns = way.turns ++ on.last ∷ [];
            stands = on.stands;
            number_is = omega (arith, long, count, counted);
            left_is = line_more way.lines line left unread after way.left_is is;
            first = way.first;
            writes = way.writes;
            told = ap (λ (l : List ℕ). way.first ++ l) kept ∙ sym (append_assoc way.first out text)
                ∙ ap (λ (l : List ℕ). l ++ text) way.told
                ∙ ap (λ (l : List ℕ). told_text base (all_said way.turns) ++ l) on.text_is
                ∙ told_more base filters (way.lines ++ line ∷ []) way.turns on.last new on.stands legal;
          }

      -- memory ran out within the next line
      cut_talk : (line : List ℕ) (after : Option (List ℕ)) (new : Now)
          → IsNext true line (option_map lines_of unread) (option_map lines_of after) → IsCutAt number line now new
          → IsCutTalk filters way.lines left now.history.entries new.history.entries
      cut_talk line after new is (inl same) = inl same
      cut_talk line after new is (inr cut) =
          inr (
            line,
            cut.0,
            are_first (way.lines ++ line ∷ []) left after (line_more way.lines line left unread after way.left_is is),
            subst (λ n. IsTurn n (hear n line (heard_from 1 (start_hearing (map length filters)) way.lines)).asks cut.0) way.number_is
                (subst (λ (h : Hearing). IsTurn number (hear number line h).asks cut.0) way.stands.heard cut.1),
            cut.2,
          )

      -- a line was answered, or memory ran out in it
      pub way_turned : {A : Type 0} (r : Result A TalkEnd) (line more : List ℕ) (after : Option (List ℕ)) (new : Now)
          → IsNext true line (option_map lines_of unread) (option_map lines_of after)
          → IsLegal now.history.base now.history.entries → IsLegal new.history.base new.history.entries
          → OnErr r (IsCutAt number line now new)
          → OnOk r ((text : List ℕ) × Answers number line now new text × (more ≡ out ++ text))
          → OnErr r (more ≡ out) → IfErr r (λ end. end ≡ Memory)
          → MatchResult r (λ x. IsUnderWay held faults base filters left begun sink more (number + 1) after new)
          (λ end. HasSaid held faults base filters left begun sink more new.history.entries end)
      way_turned (Ok x) line more after new is legal then_legal cut answered kept why =
          way_more line answered.0 more after new (number + 1) is
          (answered.1 base filters way.lines way.turns way.number_is way.stands) then_legal answered.2 refl
      way_turned (Err end) line more after new is legal then_legal cut answered kept why =
          subst (HasSaid held faults base filters left begun sink more new.history.entries) (sym why)
          (subst (λ (l : List ℕ). HasSaid held faults base filters left begun sink l new.history.entries Memory) (sym kept)
          (way_memory new.history.entries legal (cut_talk line after new is cut)))
