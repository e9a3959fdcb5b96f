-- Windows that a line asks for, and what is said of them.
use Rattle.std.proofs.Common.{◌≡◌, inl, inr, ℕ, ◌<◌, ◌≤◌, ◌+◌, Bool, true, false, cond, List, [], ◌∷◌, refl, sym, ap, ◌∙◌, arith, append-nil, nat_le, nat_lt}
use Rattle.std.specs.Prelude.{Option, Some, None, IfSome, option_map, codes}
use Rattle.std.specs.Option.{option_or}
use Rattle.std.proofs.lemmas.Bool.{leb-true, ltb-true}
use Rattle.spec_script.specs.Words.{if_holds, number_below, plain_number, number, none, three, five}
use Rattle.spec_script.specs.Commands.{is_word}
use Rattle.spec_script.proofs.Limits.{if-then, if-any, if-test}
use Rattle.spec_serve.specs.Hearing.{requests}
use Rattle.spec_serve.specs.Windows.{Window, Request, looks, waits, window_side, window_from, one_tile, many_tiles, window_of, request_by, request_of}
use Rattle.spec_serve.specs.Said.{showed, not_shown, frame, window_bytes, short_line, refusal_words}
use Rattle.spec_window.specs.declared.TheConstants.{MAX_WINDOW}
use Rattle.spec_window.specs.declared.WindowRefused.{WindowRefused}
use Rattle.spec_window.specs.Window.{window, window_refusal}
use Rattle.xl_history.specs.History.{History, version, document}
use Rattle.xl_serve.specs.Played.{IsAnswered}
use Rattle.xl_serve.proofs.Texts.{one_text}

-- ---- what is asked for is within its limits

abbrev pub IsWindow : Window → Type 0
IsWindow w = (1 ≤ w.cols) × (1 ≤ w.rows) × (w.cols ≤ MAX_WINDOW) × (w.rows ≤ MAX_WINDOW)

abbrev pub IsRequest : Request → Type 0
IsRequest (looks session w) = (session < 8) × IsWindow w
IsRequest (waits session) = session < 8

abbrev IsSide : ℕ → Type 0
IsSide n = (1 ≤ n) × (n ≤ MAX_WINDOW)

below : (limit : ℕ) (word : List ℕ) → IfSome (number_below limit word) (λ n. n < limit)
below limit word = if-any (λ n. n < limit) (plain_number word) (λ n. if_holds (nat_lt n limit) n)
    (λ n. if-test (λ m. m < limit) (nat_lt n limit) n (λ e. ltb-true n limit e))

side_is : (word : List ℕ) → IfSome (window_side word) IsSide
side_is word =
    if-then (λ n. n < MAX_WINDOW + 1) IsSide (number_below (MAX_WINDOW + 1) word) (λ n. if_holds (nat_le 1 n) n)
    (below (MAX_WINDOW + 1) word)
    (λ n lt. if-test IsSide (nat_le 1 n) n (λ e. (leb-true 1 n e, omega (arith, lt))))

from_is : (stack col row : List ℕ) (cols rows : ℕ) → IsSide cols → IsSide rows → IfSome (window_from stack col row cols rows) IsWindow
from_is stack col row cols rows c r =
    if-any IsWindow (number stack) _ (λ id. if-any IsWindow (number col) _ (λ x. if-any IsWindow (number row) _ (λ y.
    (c.0, r.0, c.1, r.1))))

many_is : (words : List (List ℕ)) → IfSome (many_tiles words) IsWindow
many_is words =
    if-any IsWindow (five words) _ (λ t.
    if-then IsSide IsWindow (window_side t.3) _ (side_is t.3) (λ cols c.
    if-then IsSide IsWindow (window_side t.4) _ (side_is t.4) (λ rows r. from_is t.0 t.1 t.2 cols rows c r)))

one_is : (words : List (List ℕ)) → IfSome (one_tile words) IsWindow
one_is words =
    if-any IsWindow (three words) _ (λ t. from_is t.0 t.1 t.2 1 1 (omega arith, omega arith) (omega arith, omega arith))

or_is : (P : Window → Type 0) (a b : Option Window) → IfSome a P → IfSome b P → IfSome (option_or a b) P
or_is P None b x y = y
or_is P (Some w) b x y = x

map_is : (session : ℕ) (o : Option Window) → session < 8 → IfSome o IsWindow → IfSome (option_map (looks session) o) IsRequest
map_is session None lt is = tt
map_is session (Some w) lt is = (lt, is)

either : (b : Bool) (x y : Option Request) → IfSome x IsRequest → IfSome y IsRequest → IfSome (cond b x y) IsRequest
either true x y p q = p
either false x y p q = q

by_is : (keyword : List ℕ) (words : List (List ℕ)) (session : ℕ) → session < 8 → IfSome (request_by keyword words session) IsRequest
by_is keyword words session lt =
    either (is_word keyword (codes "pixels")) _ _
    (map_is session (window_of words) lt (or_is IsWindow (one_tile words) (many_tiles words) (one_is words) (many_is words)))
    (either (is_word keyword (codes "wait")) _ _
    (if-test IsRequest (none words) (waits session) (λ e. lt)) tt)

pub request_is_within : (words : List (List ℕ)) → IfSome (request_of words) IsRequest
request_is_within [] = tt
request_is_within (s ∷ []) = tt
request_is_within (s ∷ keyword ∷ words) =
    if-then (λ n. n < 8) IsRequest (number_below 8 s) (request_by keyword words) (below 8 s) (λ session lt. by_is keyword words session lt)

-- ---- what is said

pub window_shown : (h : History) (session v : ℕ) (w : Window) (bytes text : List ℕ) → window_refusal (document h) w.stack w.at ≡ None
    → v ≡ version h → bytes ≡ window (document h) w.stack w.at w.cols w.rows → text ≡ frame session v bytes
    → (number : ℕ) → IsAnswered number (requests (looks session w)) h h text
window_shown h session v w bytes text free latest shown is number = record {
  turn = showed session w v ∷ [];
  is_turn = record {
    before = [];
    answer = showed session w v ∷ [];
    behind = [];
    parts = refl;
    may_end = (tt, tt);
    answers = inl (v, refl);
  };
  entries = sym (append-nil h.entries);
  said = ((latest, free), tt);
  text_is = is
      ∙ ap (frame session v) (shown ∙ ap (λ (n : ℕ). window_bytes h.base h.entries w n) (sym latest))
      ∙ sym (one_text h.base h.entries (showed session w v));
}

pub window_refused : (h : History) (session : ℕ) (w : Window) (why : WindowRefused) (text : List ℕ)
    → window_refusal (document h) w.stack w.at ≡ Some why → text ≡ short_line session (refusal_words why)
    → (number : ℕ) → IsAnswered number (requests (looks session w)) h h text
window_refused h session w why text refused is number = record {
  turn = not_shown session w why ∷ [];
  is_turn = record {
    before = [];
    answer = not_shown session w why ∷ [];
    behind = [];
    parts = refl;
    may_end = (tt, tt);
    answers = inr (why, refl);
  };
  entries = sym (append-nil h.entries);
  said = (refused, tt);
  text_is = is ∙ sym (one_text h.base h.entries (not_shown session w why));
}
