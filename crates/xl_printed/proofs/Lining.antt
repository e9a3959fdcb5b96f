-- Lines and words that are read one after another.
use Rattle.std.proofs.Common.{◌≡◌, ℕ, suc, ◌+◌, ◌-◌, ◌<◌, ◌≤◌, Bool, true, false, cond, List, [], ◌∷◌, ◌++◌, length, take, drop, refl, ap, sym, ◌∙◌, arith, subst, append_assoc, get_or, eq-eqb, ne_eqb}
use Rattle.std.specs.Prelude.{Option, Some, None, option_map}
use Rattle.std.proofs.Math.Seq.{drop-cons}
use Rattle.spec_script.specs.Words.{◌>>=◌, split_at, words_of}
use Rattle.spec_text.specs.declared.OrderWord.{OrderWord}
use Rattle.spec_audit.specs.Output.{Printed}
use Rattle.spec_audit.specs.Reading.{cut_at, read_line, read_lines, read_sessions, read_word, read_words, unmarked}
use Rattle.xl_printed.specs.FirstLine.{first_line}

-- ---- lines

-- what is read of the rest, behind what was read before
abbrev behind : Option (List Printed × List ℕ) → (done : List Printed) → Option (List Printed × List ℕ)
behind o done = o >>= λ more. Some (done ++ more.0, more.1)

-- the lines from an index on give those of all
pub record IsLinesLeft (session count index : ℕ) (text rest : List ℕ) (done : List Printed) : Type 0 where
  pub within : index ≤ count
  pub same : behind (read_lines session index (count - index) rest) done ≡ read_lines session 0 count text

behind_none : (o : Option (List Printed × List ℕ)) → behind o [] ≡ o
behind_none None = refl
behind_none (Some t) = refl

-- a reply, and what is behind its line
abbrev pair : Printed → List ℕ → Printed × List ℕ
pair p after = (p, after)

-- a reply in front of those that are read behind it
abbrev in_front : (session index n : ℕ) → Printed × List ℕ → Option (List Printed × List ℕ)
in_front session index n t = read_lines session (index + 1) n t.1 >>= λ more. Some (t.0 ∷ more.0, more.1)

front_each : (session index n : ℕ) (after : List ℕ) (p : Option Printed)
    → (p >>= λ q. in_front session index n (pair q after)) ≡ ((p >>= λ q. Some (pair q after)) >>= in_front session index n)
front_each session index n after None = refl
front_each session index n after (Some q) = refl

front_by : (session index n : ℕ) (c : Option (List ℕ × List ℕ))
    → (c >>= λ t. read_line session index t.0 >>= λ p. in_front session index n (pair p t.1))
    ≡ ((c >>= λ t. read_line session index t.0 >>= λ p. Some (pair p t.1)) >>= in_front session index n)
front_by session index n None = refl
front_by session index n (Some t) = front_each session index n t.1 (read_line session index t.0)

one_line : (session index n : ℕ) (rest : List ℕ) (o : Option (Printed × List ℕ)) → first_line session index rest ≡ o
    → read_lines session index (suc n) rest ≡ (o >>= in_front session index n)
one_line session index n rest o is =
    front_by session index n (cut_at 10 rest) ∙ ap (λ (x : Option (Printed × List ℕ)). x >>= in_front session index n) is

count_more : (count index : ℕ) → index < count → count - index ≡ suc (count - (index + 1))
count_more count index lt = omega (arith, lt)

pub lines_none : (session count index : ℕ) (text rest : List ℕ) (done : List Printed) → IsLinesLeft session count index text rest done → index < count
    → first_line session index rest ≡ None → read_lines session 0 count text ≡ None
lines_none session count index text rest done left lt is =
    sym left.same ∙ ap (λ (n : ℕ). behind (read_lines session index n rest) done) (count_more count index lt)
    ∙ ap (λ (o : Option (List Printed × List ℕ)). behind o done) (one_line session index (count - (index + 1)) rest None is)

behind_more : (o : Option (List Printed × List ℕ)) (p : Printed) (done : List Printed)
    → behind (o >>= λ more. Some (p ∷ more.0, more.1)) done ≡ behind o (done ++ p ∷ [])
behind_more None p done = refl
behind_more (Some t) p done = ap (λ (ps : List Printed). Some (ps, t.1)) (sym (append_assoc done (p ∷ []) t.0))

pub lines_more : (session count index : ℕ) (text rest after : List ℕ) (done : List Printed) (p : Printed)
    → IsLinesLeft session count index text rest done → index < count → first_line session index rest ≡ Some (p, after)
    → IsLinesLeft session count (index + 1) text after (done ++ p ∷ [])
lines_more session count index text rest after done p left lt is = record {
  within = omega (arith, lt);
  same = sym (behind_more (read_lines session (index + 1) (count - (index + 1)) after) p done)
      ∙ ap (λ (o : Option (List Printed × List ℕ)). behind o done) (sym (one_line session index (count - (index + 1)) rest (Some (pair p after)) is))
      ∙ ap (λ (n : ℕ). behind (read_lines session index n rest) done) (sym (count_more count index lt)) ∙ left.same;
}

-- ---- words

abbrev words_after : Option (List OrderWord) → (done : List OrderWord) → Option (List OrderWord)
words_after o done = option_map (λ (ws : List OrderWord). done ++ ws) o

pub record IsWordsLeft (text rest : List ℕ) (done : List OrderWord) : Type 0 where
  pub same : words_after (read_words (words_of rest)) done ≡ read_words (words_of text)

after_more : (o : Option (List OrderWord)) (w : OrderWord) (done : List OrderWord)
    → words_after (option_map (λ (ws : List OrderWord). w ∷ ws) o) done ≡ words_after o (done ++ w ∷ [])
after_more None w done = refl
after_more (Some ws) w done = ap (λ (xs : List OrderWord). Some xs) (sym (append_assoc done (w ∷ []) ws))

pub words_more : (text rest word after : List ℕ) (done : List OrderWord) (w : OrderWord) → IsWordsLeft text rest done
    → split_at 32 rest ≡ word ∷ split_at 32 after → read_word word ≡ Some w → IsWordsLeft text after (done ++ w ∷ [])
words_more text rest word after done w left split is = record {
  same = sym (after_more (read_words (words_of after)) w done)
      ∙ ap (λ (o : Option OrderWord). words_after (o >>= λ x. option_map (λ (ws : List OrderWord). x ∷ ws) (read_words (words_of after))) done) (sym is)
      ∙ ap (λ (ws : List (List ℕ)). words_after (read_words ws) done) (sym split) ∙ left.same;
}

-- ---- the mark of an end

pub marked_is : (word : List ℕ) → 0 < length word → get_or word (length word - 1) 0 ≡ 101 → unmarked word ≡ (take (length word - 1) word, true)
marked_is [] some last = absurd (omega (arith, some))
marked_is (b ∷ []) some last =
    let marked : List ℕ × Bool = ([], true) in
    let plain : List ℕ × Bool = (b ∷ [], false) in
    ap (λ (t : Bool). cond t marked plain) (eq-eqb b 101 last)
marked_is (b ∷ c ∷ bytes) some last =
    let z : suc (suc (length bytes)) - 1 ≡ suc (suc (length bytes) - 1) = omega arith in
    let more : get_or (c ∷ bytes) (suc (length bytes) - 1) 0 ≡ 101 = subst (λ (n : ℕ). get_or (b ∷ c ∷ bytes) n 0 ≡ 101) z last in
    ap (λ (t : List ℕ × Bool). (b ∷ t.0, t.1)) (marked_is (c ∷ bytes) (omega arith) more)
    ∙ ap (λ (n : ℕ). (take n (b ∷ c ∷ bytes), true)) (sym z)

pub unmarked_is : (word : List ℕ) → (0 < length word → get_or word (length word - 1) 0 ≡ 101 → ⊥) → unmarked word ≡ (word, false)
unmarked_is [] other = refl
unmarked_is (b ∷ []) other =
    let marked : List ℕ × Bool = ([], true) in
    let plain : List ℕ × Bool = (b ∷ [], false) in
    ap (λ (t : Bool). cond t marked plain) (ne_eqb b 101 (other (omega arith)))
unmarked_is (b ∷ c ∷ bytes) other =
    let z : suc (suc (length bytes)) - 1 ≡ suc (suc (length bytes) - 1) = omega arith in
    let more : 0 < length (c ∷ bytes) → get_or (c ∷ bytes) (suc (length bytes) - 1) 0 ≡ 101 → ⊥ =
    λ some last. other (omega arith) (subst (λ (n : ℕ). get_or (b ∷ c ∷ bytes) n 0 ≡ 101) (sym z) last) in
    ap (λ (t : List ℕ × Bool). (b ∷ t.0, t.1)) (unmarked_is (c ∷ bytes) more)

-- ---- sessions

abbrev sessions_behind : Option (List (List Printed) × List ℕ) → (done : List (List Printed)) → Option (List (List Printed) × List ℕ)
sessions_behind o done = o >>= λ more. Some (done ++ more.0, more.1)

-- the sessions from one on give those of all
pub record IsSessionsLeft (counts : List ℕ) (session : ℕ) (text rest : List ℕ) (done : List (List Printed)) : Type 0 where
  pub within : session ≤ length counts
  pub same : sessions_behind (read_sessions session (drop session counts) rest) done ≡ read_sessions 0 counts text

counts_at : (counts : List ℕ) (session : ℕ) → session < length counts → drop session counts ≡ get_or counts session 0 ∷ drop (session + 1) counts
counts_at counts session lt =
    let one : suc session ≡ session + 1 = omega arith in
    drop-cons counts session 0 lt ∙ ap (λ (n : ℕ). get_or counts session 0 ∷ drop n counts) one

abbrev list_pair : List Printed → List ℕ → List Printed × List ℕ
list_pair ps after = (ps, after)

-- a session's list in front of those that are read behind it
abbrev lists_front : (session : ℕ) (counts : List ℕ) → List Printed × List ℕ → Option (List (List Printed) × List ℕ)
lists_front session counts t = read_sessions (session + 1) counts t.1 >>= λ more. Some (t.0 ∷ more.0, more.1)

sessions_more_behind : (o : Option (List (List Printed) × List ℕ)) (ps : List Printed) (done : List (List Printed))
    → sessions_behind (o >>= λ more. Some (ps ∷ more.0, more.1)) done ≡ sessions_behind o (done ++ ps ∷ [])
sessions_more_behind None ps done = refl
sessions_more_behind (Some t) ps done = ap (λ (pss : List (List Printed)). Some (pss, t.1)) (sym (append_assoc done (ps ∷ []) t.0))

pub sessions_more : (counts : List ℕ) (session : ℕ) (text rest after : List ℕ) (done : List (List Printed)) (ps : List Printed)
    → IsSessionsLeft counts session text rest done → session < length counts
    → read_lines session 0 (get_or counts session 0) rest ≡ Some (ps, after)
    → IsSessionsLeft counts (session + 1) text after (done ++ ps ∷ [])
sessions_more counts session text rest after done ps left lt is = record {
  within = omega (arith, lt);
  same = sym (sessions_more_behind (read_sessions (session + 1) (drop (session + 1) counts) after) ps done)
      ∙ ap (λ (o : Option (List Printed × List ℕ)). sessions_behind (o >>= lists_front session (drop (session + 1) counts)) done) (sym is)
      ∙ ap (λ (ns : List ℕ). sessions_behind (read_sessions session ns rest) done) (sym (counts_at counts session lt))
      ∙ left.same;
}
