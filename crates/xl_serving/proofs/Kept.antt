-- How what is kept of a talk that has ended is written.
use Rattle.std.proofs.Common.{◌≡◌, inl, inr, ℕ, Bool, true, false, List, ◌++◌, refl, sym, ap, ◌∙◌, subst, append_assoc}
use Rattle.std.specs.Prelude.{Option}
use Rattle.spec_history.specs.History.{Entry}
use Rattle.xl_ports.specs.Sink.{WritesAll, WritesPart}
use Rattle.xl_commands.specs.Lines.{WritesLine}
use Rattle.xl_serve.specs.Talked.{closing}
use Rattle.xl_serve.specs.Talking.{IsKeptOf}
use Rattle.xl_serve.specs.declared.ends.TalkEnd.{TalkEnd}
use Rattle.xl_serve.specs.declared.ends.TalkEnd.TheVariants.{Ended, TooLong, SourceFault, SinkFault, Memory, NotBegun}
use Rattle.xl_serve.proofs.Talks.{writes_more, writes_part, part_longer}
use Rattle.xl_serving.specs.Written.{is_closed, is_cut, closed_status, WritesOr, IsWritten}

module _ {K : Type 0} (held : K → Option (List ℕ)) (faults : K → ℕ) where
  -- what was told is written, but for what is kept
  abbrev HasFront : (old mid : K) → (told out : List ℕ) → Type 0
  HasFront old mid told out = (first : List ℕ) × WritesAll held faults old mid first × (first ++ out ≡ told)

  closed_front : (old mid : K) (told out : List ℕ) (end : TalkEnd) → is_closed end ≡ true → IsKeptOf held faults old mid told out end
      → HasFront old mid told out
  closed_front old mid told out Ended closed kept = kept
  closed_front old mid told out (TooLong number) closed kept = kept
  closed_front old mid told out SourceFault closed kept = kept
  closed_front old mid told out SinkFault closed kept = let bad : false ≡ true = closed in cc
  closed_front old mid told out Memory closed kept = let bad : false ≡ true = closed in cc
  closed_front old mid told out NotBegun closed kept = let bad : false ≡ true = closed in cc

  -- with a text behind it
  joined : (first out told more : List ℕ) → first ++ out ≡ told → first ++ (out ++ more) ≡ told ++ more
  joined first out told more is = sym (append_assoc first out more) ∙ ap (λ (t : List ℕ). t ++ more) is

  all_behind : (old mid new : K) (told out more : List ℕ) → HasFront old mid told out → WritesAll held faults mid new (out ++ more)
      → WritesAll held faults old new (told ++ more)
  all_behind old mid new told out more front writes =
      subst (WritesAll held faults old new) (joined front.0 out told more front.2)
      (writes_more held faults old mid new front.0 (out ++ more) front.1 writes)

  part_behind : (old mid new : K) (told out more : List ℕ) → HasFront old mid told out → WritesPart held faults mid new (out ++ more)
      → WritesPart held faults old new (told ++ more)
  part_behind old mid new told out more front writes =
      subst (WritesPart held faults old new) (joined front.0 out told more front.2)
      (writes_part held faults old mid new front.0 (out ++ more) front.1 writes)

  line_behind : (old mid new : K) (told out : List ℕ) → HasFront old mid told out → WritesLine held faults mid new out
      → WritesLine held faults old new told
  line_behind old mid new told out front (inl all) =
      inl (subst (WritesAll held faults old new) front.2 (writes_more held faults old mid new front.0 out front.1 all))
  line_behind old mid new told out front (inr part) =
      inr (subst (WritesPart held faults old new) front.2 (writes_part held faults old mid new front.0 out front.1 part))

  -- with what stands behind it
  pub closed_written : (old mid new : K) (told out text : List ℕ) (es : List Entry) (end : TalkEnd) (failed : Bool) (all status : ℕ)
      → is_closed end ≡ true → IsKeptOf held faults old mid told out end → text ≡ out ++ closing es end → all ≡ closed_status failed end
      → WritesOr held faults mid new text all status → IsWritten held faults old new told es end failed status
  closed_written old mid new told out text es end failed all status closed kept is at (inl whole) = inl (
    closed,
    whole.0 ∙ at,
    all_behind old mid new told out (closing es end) (closed_front old mid told out end closed kept)
        (subst (WritesAll held faults mid new) is whole.1),
  )
  closed_written old mid new told out text es end failed all status closed kept is at (inr part) = inr (inl (
    part.0,
    part_behind old mid new told out (closing es end) (closed_front old mid told out end closed kept)
        (subst (WritesPart held faults mid new) is part.1),
  ))

  -- without memory for that
  pub unclosed_written : (old mid new : K) (told out text : List ℕ) (es : List Entry) (end : TalkEnd) (failed : Bool)
      → is_closed end ≡ true → IsKeptOf held faults old mid told out end → text ≡ out → WritesLine held faults mid new text
      → IsWritten held faults old new told es end failed 8
  unclosed_written old mid new told out text es end failed closed kept is line = inr (inr (
    refl,
    line_behind old mid new told out (closed_front old mid told out end closed kept) (subst (WritesLine held faults mid new) is line),
  ))

  -- where the sink failed in the talk
  pub cut_written : (old new : K) (told out : List ℕ) (es : List Entry) (end : TalkEnd) (failed : Bool) → is_cut end ≡ true
      → IsKeptOf held faults old new told out end → IsWritten held faults old new told es end failed 7
  cut_written old new told out es Ended failed cut kept = let bad : false ≡ true = cut in cc
  cut_written old new told out es (TooLong number) failed cut kept = let bad : false ≡ true = cut in cc
  cut_written old new told out es SourceFault failed cut kept = let bad : false ≡ true = cut in cc
  cut_written old new told out es SinkFault failed cut kept =
      inr (inl (refl, part_longer held faults old new told (closing es SinkFault) kept))
  cut_written old new told out es Memory failed cut kept = let bad : false ≡ true = cut in cc
  cut_written old new told out es NotBegun failed cut kept = let bad : false ≡ true = cut in cc

  -- and where memory ran out in it
  pub memory_written : (old mid new : K) (told out text : List ℕ) (es : List Entry) (end : TalkEnd) (failed : Bool)
      → is_closed end ≡ false → is_cut end ≡ false → IsKeptOf held faults old mid told out end → text ≡ out
      → WritesLine held faults mid new text → IsWritten held faults old new told es end failed 8
  memory_written old mid new told out text es Ended failed unclosed uncut kept is line = let bad : true ≡ false = unclosed in cc
  memory_written old mid new told out text es (TooLong number) failed unclosed uncut kept is line = let bad : true ≡ false = unclosed in cc
  memory_written old mid new told out text es SourceFault failed unclosed uncut kept is line = let bad : true ≡ false = unclosed in cc
  memory_written old mid new told out text es SinkFault failed unclosed uncut kept is line = let bad : true ≡ false = uncut in cc
  memory_written old mid new told out text es Memory failed unclosed uncut kept is line =
      inr (inr (refl, line_behind old mid new told out kept (subst (WritesLine held faults mid new) is line)))
  memory_written old mid new told out text es NotBegun failed unclosed uncut kept is line = absurd kept
