-- A talk under way: what was said, what of it was written, and why no further line is taken.
use Rattle.std.specs.Prelude.{◌≡◌, ℕ, ◌+◌, length, option_map, List, ◌++◌, Option, Result, Ok, Err}
use Rattle.spec_document.specs.Document.{Document}
use Rattle.spec_filters.specs.declared.FilterState.{FilterState}
use Rattle.spec_history.specs.History.{Entry}
use Rattle.spec_script.specs.declared.TheConstants.{MAX_SCRIPT_BYTES}
use Rattle.spec_serve.specs.Said.{Said, all_said, entries_of, told_text}
use Rattle.spec_serve.specs.Talk.{IsTalk}
use Rattle.spec_script.specs.Words.{lines_of}
use Rattle.xl_lines.specs.Lines.{IsLonger}
use Rattle.xl_ports.specs.Sink.{WritesAll, WritesPart}
use Rattle.xl_serve.specs.Serving.{Now, Stands}
use Rattle.xl_serve.specs.Talked.{AreFirst, StopsBy, AreSaidOf}
use Rattle.xl_serve.specs.declared.ends.TalkEnd.{TalkEnd}
use Rattle.xl_serve.specs.declared.ends.TalkEnd.TheVariants.{Ended, TooLong, SourceFault, SinkFault, Memory, NotBegun}

-- why there is no line of this number
abbrev pub WhyNone : (number : ℕ) → (unread : Option (List ℕ)) → TalkEnd → Type 0
WhyNone number unread (TooLong n) = (n ≡ number) × IsLonger MAX_SCRIPT_BYTES unread
WhyNone number unread SourceFault = Unit {0}
WhyNone number unread Memory = Unit {0}
WhyNone number unread Ended = ⊥
WhyNone number unread SinkFault = ⊥
WhyNone number unread NotBegun = ⊥

abbrev pub NoLine : {A : Type 0} → (number : ℕ) → (unread : Option (List ℕ)) → Result A TalkEnd → Type 0
NoLine number unread (Ok there) = Unit {0}
NoLine number unread (Err end) = WhyNone number unread end

-- the lines that were left are these, and then those that are left
abbrev pub LinesGo : (lines : List (List ℕ)) → (left unread : Option (List ℕ)) → Type 0
LinesGo lines left unread = option_map lines_of left ≡ option_map (λ more. lines ++ more) (option_map lines_of unread)

module _ {K : Type 0} (held : K → Option (List ℕ)) (faults : K → ℕ) where
  -- what was kept moves to the sink, from its front; or a fault came
  abbrev pub Moves : {A E : Type 0} → (old new : K) → (before after : List ℕ) → Result A E → Type 0
  Moves old new before after (Ok x) = (first : List ℕ) × (before ≡ first ++ after) × WritesAll held faults old new first
  Moves old new before after (Err e) = WritesPart held faults old new before

  -- what was told is written, but for what is kept
  abbrev pub IsKeptOf : (old new : K) → (told out : List ℕ) → TalkEnd → Type 0
  IsKeptOf old new told out Ended = (first : List ℕ) × WritesAll held faults old new first × (first ++ out ≡ told)
  IsKeptOf old new told out (TooLong number) = (first : List ℕ) × WritesAll held faults old new first × (first ++ out ≡ told)
  IsKeptOf old new told out SourceFault = (first : List ℕ) × WritesAll held faults old new first × (first ++ out ≡ told)
  IsKeptOf old new told out SinkFault = WritesPart held faults old new told
  IsKeptOf old new told out Memory = (first : List ℕ) × WritesAll held faults old new first × (first ++ out ≡ told)
  IsKeptOf old new told out NotBegun = ⊥

  pub record HasSaid (base : Document) (filters : List (List FilterState)) (left : Option (List ℕ)) (old new : K) (out : List ℕ)
      (es : List Entry) (end : TalkEnd) : Type 0 where
    pub lines : List (List ℕ)
    pub turns : List (List Said)
    pub talk : IsTalk base filters lines turns
    pub first : AreFirst lines left
    pub stops : StopsBy lines left end
    pub entries : AreSaidOf filters lines left (entries_of (all_said turns)) es end
    pub kept : IsKeptOf old new (told_text base (all_said turns)) out end

  -- a talk under way: what stands for it, the lines that are left, and what of it was written
  pub record IsUnderWay (base : Document) (filters : List (List FilterState)) (left : Option (List ℕ)) (begun sink : K) (out : List ℕ)
      (number : ℕ) (unread : Option (List ℕ)) (now : Now) : Type 0 where
    pub lines : List (List ℕ)
    pub turns : List (List Said)
    pub stands : Stands base filters lines turns now
    pub number_is : number ≡ 1 + length lines
    pub left_is : LinesGo lines left unread
    pub first : List ℕ
    pub writes : WritesAll held faults begun sink first
    pub told : first ++ out ≡ told_text base (all_said turns)
