-- The lines of a legal history with no save out stay as they are, whatever comes behind it.
use Rattle.std.proofs.Common.{◌≡◌, ℕ, ◌≤◌, true, cond, List, [], ◌∷◌, ◌++◌, None, refl, ap, sym, ◌∙◌, arith}
use Rattle.std.proofs.Common.{subst, append_assoc, flat_map}
use Rattle.std.specs.List.{AllByRecursion}
use Rattle.std.proofs.lemmas.List.Concat.{flat_map-cons}
use Rattle.spec_document.specs.Document.{Document}
use Rattle.spec_history.specs.Machine.{Reply, State, initial, latest}
use Rattle.spec_history.specs.History.{Entry, Kind, asked, starts, ends, is_end_kind, after_entry, replay_from, replay}
use Rattle.spec_history.specs.History.{RunFrom}
use Rattle.spec_history.specs.Kept.{IsLegal}
use Rattle.spec_history.proofs.Versions.{IsSound, sound-initial, goes-step, ends-run}
use Rattle.spec_text.specs.Printed.{line_text}
use Rattle.spec_text.specs.Text.{entry_line, shown_digest, printed_reply}
use Rattle.xl_play.specs.Playing.{lines_in}
use Rattle.spec_text.proofs.Ends.{HasEnd, has_end, has_end_behind, first_ends, end_stays}
use Rattle.spec_text.proofs.Shown.{IsUpTo, up_to_later, up_to_step, digest_stays}

-- all that the line of an entry tells is there
pub record IsTold (base : Document) (all : List Entry) (e : Entry) : Type 0 where
  pub shown : IsUpTo (latest (replay base all)) e.reply
  pub ended : HasEnd all e.session e.index e.kind

end_in_all : (earlier es : List Entry) (e : Entry) (k : Kind) → HasEnd es e.session e.index k
    → HasEnd (earlier ++ e ∷ es) e.session e.index k
end_in_all earlier es e (asked c tables) h = tt
end_in_all earlier es e starts h =
    subst (λ (all : List Entry). has_end all e.session e.index ≡ true) (append_assoc earlier (e ∷ []) es)
    (has_end_behind (earlier ++ e ∷ []) es e.session e.index h)
end_in_all earlier es e ends h = tt

all_told : (base : Document) (s : State) (earlier es : List Entry) → replay_from base s es ≡ replay base (earlier ++ es) → IsSound s
    → RunFrom base s earlier es
    → (replay_from base s es).out ≡ None → AllByRecursion (IsTold base (earlier ++ es)) es
all_told base s earlier [] here h run none = tt
all_told base s earlier (e ∷ es) here h run none =
    let new = after_entry base s e in
    let goes = goes-step base s earlier e h run.0 in
    let more = (ends-run base s earlier (e ∷ es) h run).more in
    let last = ap latest here in
    let low : latest s ≤ latest (replay base (earlier ++ e ∷ es)) = omega arith in
    let whole : (earlier ++ e ∷ []) ++ es ≡ earlier ++ e ∷ es = append_assoc earlier (e ∷ []) es in (
      record {
        shown = up_to_later (latest s) (latest (replay base (earlier ++ e ∷ es))) e.reply low
            (up_to_step base s earlier e e.kind run.0);
        ended = end_in_all earlier es e e.kind (first_ends base s earlier e es run none);
      },
      subst (λ (all : List Entry). AllByRecursion (IsTold base all) es) whole
          (all_told base new (earlier ++ e ∷ []) es (here ∙ ap (replay base) (sym whole)) goes.sound run.1 none),
    )

reply_stays : (all more : List Entry) (e : Entry) (k : Kind) → HasEnd all e.session e.index k
    → printed_reply (all ++ more) e k ≡ printed_reply all e k
reply_stays all more e (asked c tables) h = refl
reply_stays all more e starts h = end_stays all more e.session e.index e.reply h
reply_stays all more e ends h = refl

line_stays : (base : Document) (all more : List Entry) (e : Entry) → IsTold base all e
    → entry_line base (all ++ more) e ≡ entry_line base all e
line_stays base all more e told =
    ap (λ (digest : List ℕ).
    cond (is_end_kind e.kind) [] (line_text e.session e.index digest (printed_reply (all ++ more) e e.kind)))
    (digest_stays base all more e.kind e.reply told.shown)
    ∙ ap (λ (r : Reply). cond (is_end_kind e.kind) [] (line_text e.session e.index (shown_digest base all e.kind e.reply) r))
    (reply_stays all more e e.kind told.ended)

each_stays : (base : Document) (all more es : List Entry) → AllByRecursion (IsTold base all) es
    → flat_map (entry_line base (all ++ more)) es ≡ flat_map (entry_line base all) es
each_stays base all more [] told = refl
each_stays base all more (e ∷ es) told =
    flat_map-cons (entry_line base (all ++ more)) e es
    ∙ ap (λ (line : List ℕ). line ++ flat_map (entry_line base (all ++ more)) es) (line_stays base all more e told.0)
    ∙ ap (λ (rest : List ℕ). entry_line base all e ++ rest) (each_stays base all more es told.1)
    ∙ sym (flat_map-cons (entry_line base all) e es)

-- all that the lines of a legal history with no save out tell is there
pub each_told : (base : Document) (es : List Entry) → IsLegal base es → (replay base es).out ≡ None
    → AllByRecursion (IsTold base es) es
each_told base es legal none = all_told base (initial base) [] es refl (sound-initial base) legal.run none

pub lines_stay : (base : Document) (es more : List Entry) → IsLegal base es → (replay base es).out ≡ None
    → flat_map (entry_line base (es ++ more)) es ≡ lines_in base es
lines_stay base es more legal none =
    each_stays base es more es (each_told base es legal none)
