-- What is said to lines that ask for nothing of the history.
use Rattle.std.proofs.Common.{◌≡◌, ℕ, List, [], ◌∷◌, ◌++◌, refl, sym, ◌∙◌, append-nil}
use Rattle.std.specs.Prelude.{Some, None, codes}
use Rattle.spec_history.specs.History.{replay}
use Rattle.spec_script.specs.Words.{words_of}
use Rattle.spec_serve.specs.Hearing.{requests, nothing, bad, Hearing, hear, hear_script}
use Rattle.spec_serve.specs.Windows.{Request, waits, request_of}
use Rattle.spec_serve.specs.Said.{idle, bad_line, short_line}
use Rattle.spec_text.specs.Printed.{spaced}
use Rattle.xl_history.specs.History.{History}
use Rattle.xl_serve.specs.Played.{IsAnswered}
use Rattle.xl_serve.specs.Standing.{IsHearing}
use Rattle.xl_serve.proofs.Heard.{IsHeardFit}
use Rattle.xl_serve.proofs.Texts.{one_text}

pub is_idle : (h : History) (session : ℕ) (text : List ℕ) → (replay h.base h.entries).out ≡ None
    → text ≡ short_line session (codes "idle") → (number : ℕ) → IsAnswered number (requests (waits session)) h h text
is_idle h session text ended is number = record {
  turn = idle session ∷ [];
  is_turn = record { before = []; answer = idle session ∷ []; behind = []; parts = refl; may_end = (tt, tt); answers = refl };
  entries = sym (append-nil h.entries);
  said = (ended, tt);
  text_is = is ∙ sym (one_text h.base h.entries (idle session));
}

pub is_bad : (h : History) (number : ℕ) (text : List ℕ) → text ≡ codes "bad line" ++ spaced number ++ 10 ∷ []
    → IsAnswered number bad h h text
is_bad h number text is = record {
  turn = bad_line number ∷ [];
  is_turn = record { before = []; answer = bad_line number ∷ []; behind = []; parts = refl; may_end = (tt, tt); answers = refl };
  entries = sym (append-nil h.entries);
  said = (tt, tt);
  text_is = is ∙ sym (one_text h.base h.entries (bad_line number));
}

pub is_nothing : (h : History) (number : ℕ) (text : List ℕ) → text ≡ [] → IsAnswered number nothing h h text
is_nothing h number text is = record {
  turn = [];
  is_turn = record { before = []; answer = []; behind = []; parts = refl; may_end = (tt, tt); answers = refl };
  entries = sym (append-nil h.entries);
  said = tt;
  text_is = is;
}

-- ---- what a line asks for

pub no_request : (number : ℕ) (line : List ℕ) (h : Hearing) → request_of (words_of line) ≡ None
    → hear number line h ≡ hear_script number line h
no_request number line h is = rw is refl

pub is_request : (number : ℕ) (line : List ℕ) (h : Hearing) (r : Request) → request_of (words_of line) ≡ Some r
    → record { asks = requests r; hearing = h } ≡ hear number line h
is_request number line h r is = rw is refl

pub request_fit : (h : Hearing) (r : Request) → IsHearing h → IsHeardFit h (record { asks = requests r; hearing = h })
request_fit h r is = record { hearing = is; filters = λ s. refl; dropped = λ s. refl; asked = tt }
