-- The shelves that a list of moments hands out.
use Rattle.std.proofs.Common.{◌≡◌, ℕ, zero, suc, ◌+◌, drop, List, [], ◌∷◌, ◌++◌, length, Some, None, refl, sym, ap}
use Rattle.std.proofs.Common.{◌∙◌, subst, arith, append_assoc, cond}
use Rattle.std.specs.Prelude.{slice_get, option_to_list}
use Rattle.std.specs.List.{AllByRecursion}
use Rattle.std.proofs.Math.ListN.{drop_of_length-le}
use Rattle.spec_history.specs.History.{Entry, Kind, asked, starts, ends}
use Rattle.spec_saves.specs.Names.{saves_started, is_start}
use Rattle.xl_history.specs.Editing.{Editing, last_of}
use Rattle.xl_studio.specs.declared.moment.Moment.{Moment}
use Rattle.xl_studio.specs.declared.moment.Moment.TheVariants.{Opened, Made}
use Rattle.xl_studio.specs.Moments.{IsAsked, AreAsked, handed_at, starts_with, made_from, entries_in, shelf_of, handed_in}
use Rattle.xl_studio.specs.State.{moments_of}
use Rattle.xl_studio.proofs.Started.{saves_started-cons}

counts : (n s : ℕ) (k : Kind) → n + (cond (is_start k) 1 0 + s) ≡ starts_with n k + s
counts n s (asked call tables) = omega arith
counts n s starts = omega arith
counts n s ends = omega arith

module _ {K : Type 0} where
  pub handed-append : (xs ys : List (Moment K)) → handed_in (xs ++ ys) ≡ handed_in xs ++ handed_in ys
  handed-append [] ys = refl
  handed-append (x ∷ xs) ys =
      ap (λ hs. shelf_of x ++ hs) (handed-append xs ys) ∙ sym (append_assoc (shelf_of x) (handed_in xs) (handed_in ys))

  one_dropped : (xs : List K) (n : ℕ) → option_to_list (slice_get xs n) ++ drop (suc n) xs ≡ drop n xs
  one_dropped [] zero = refl
  one_dropped [] (suc n) = refl
  one_dropped (x ∷ xs) zero = refl
  one_dropped (x ∷ xs) (suc n) = one_dropped xs n

  handed_step : (handed : List K) (n : ℕ) (k : Kind)
      → option_to_list (handed_at handed n k) ++ drop (starts_with n k) handed ≡ drop n handed
  handed_step handed n (asked call tables) = refl
  handed_step handed n starts =
      let s : n + 1 ≡ suc n = omega arith in ap (λ m. option_to_list (slice_get handed n) ++ drop m handed) s ∙ one_dropped handed n
  handed_step handed n ends = refl

  handed_made : (handed : List K) (n : ℕ) (es : List Entry) → length handed ≡ n + saves_started es
      → handed_in (made_from handed n es) ≡ drop n handed
  handed_made handed n [] is = sym (drop_of_length-le handed (omega arith))
  handed_made handed n (e ∷ es) is =
      let all : length handed ≡ starts_with n e.kind + saves_started es = is
      ∙ (ap (λ m. n + m) (saves_started-cons e es) ∙ counts n (saves_started es) e.kind) in
      ap (λ hs. option_to_list (handed_at handed n e.kind) ++ hs) (handed_made handed (starts_with n e.kind) es all)
      ∙ handed_step handed n e.kind

  -- the moments of a core hand out just the shelves that it has handed out
  pub handed_moments : (c : Editing K) → length c.handed ≡ saves_started c.history.entries → handed_in (moments_of c) ≡ c.handed
  handed_moments c each = handed_made c.handed 0 c.history.entries (omega arith)

  -- ---- calls hand out none

  -- a call's moment has no shelf
  abbrev IsPlain : Moment K → Type 0
  IsPlain (Opened base shelf) = Unit {0}
  IsPlain (Made e handed) = IsAsked e.kind → handed ≡ None

  none_at : (handed : List K) (n : ℕ) (k : Kind) → IsAsked k → handed_at handed n k ≡ None
  none_at handed n (asked call tables) is = refl
  none_at handed n starts is = absurd is
  none_at handed n ends is = absurd is

  plain_made : (handed : List K) (n : ℕ) (es : List Entry) → AllByRecursion IsPlain (made_from handed n es)
  plain_made handed n [] = tt
  plain_made handed n (e ∷ es) = (none_at handed n e.kind, plain_made handed (starts_with n e.kind) es)

  plain_moments : (c : Editing K) → AllByRecursion IsPlain (moments_of c)
  plain_moments c = (tt, plain_made c.handed 0 c.history.entries)

  plain_behind : (xs ys : List (Moment K)) → AllByRecursion IsPlain (xs ++ ys) → AllByRecursion IsPlain ys
  plain_behind [] ys all = all
  plain_behind (x ∷ xs) ys all = plain_behind xs ys all.1

  none_of_calls : (ms : List (Moment K)) → AllByRecursion IsPlain ms → AreAsked (entries_in ms) → handed_in ms ≡ []
  none_of_calls [] plain are = refl
  none_of_calls (Opened base shelf ∷ ms) plain are = none_of_calls ms plain.1 are
  none_of_calls (Made e handed ∷ ms) plain are =
      ap (λ h. option_to_list h ++ handed_in ms) (plain.0 are.0) ∙ none_of_calls ms plain.1 are.1

  last-snoc : (first k : K) (ks : List K) → last_of first (ks ++ k ∷ []) ≡ k
  last-snoc first k [] = refl
  last-snoc first k (x ∷ ks) = last-snoc x k ks

  -- the shelf of the last start is the one that was handed out last
  pub last_handed_is : (c : Editing K) (entered rest : List (Moment K)) (e : Entry) (k : K)
      → length c.handed ≡ saves_started c.history.entries
      → (entered ++ Made e (Some k) ∷ []) ++ rest ≡ moments_of c → AreAsked (entries_in rest) → last_of c.opening c.handed ≡ k
  last_handed_is c entered rest e k each is are =
      let front : List (Moment K) = entered ++ Made e (Some k) ∷ [] in
      let none : handed_in rest ≡ [] =
      none_of_calls rest (plain_behind front rest (subst (AllByRecursion IsPlain) (sym is) (plain_moments c))) are in
      let all : c.handed ≡ (handed_in entered ++ k ∷ []) ++ [] =
      sym (handed_moments c each) ∙ (ap handed_in (sym is)
      ∙ (handed-append front rest ∙ (ap (λ hs. hs ++ handed_in rest) (handed-append entered (Made e (Some k) ∷ []))
      ∙ ap (λ hs. (handed_in entered ++ k ∷ []) ++ hs) none))) in
      let flat : (handed_in entered ++ k ∷ []) ++ [] ≡ handed_in entered ++ k ∷ [] = append_assoc (handed_in entered) (k ∷ []) [] in
      ap (last_of c.opening) (all ∙ flat) ∙ last-snoc c.opening k (handed_in entered)
