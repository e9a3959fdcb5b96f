-- The codes of the greedy spelling, one after another.
use Rattle.std.proofs.Common.{◌≡◌, ℕ, zero, suc, ◌+◌, ◌-◌, ◌<◌, ◌≤◌, Bool, true, false, cond, List, [], ◌∷◌, ◌++◌}
use Rattle.std.proofs.Common.{length, take, drop, replicate, slice_index, get_or, refl, ap, ◌∙◌, append_assoc, sym}
use Rattle.std.proofs.Common.{arith, append-nil, length-drop, take_all, drop-cons}
use Rattle.std.specs.Prelude.{flat_map, ◌==◌, nat_le}
use Rattle.std.proofs.lemmas.Bool.{eqb-true}
use Rattle.std.proofs.lemmas.List.{drop_all, drop-drop, length-replicate, take_at}
use Rattle.std.specs.List.{prefix_len}
use Rattle.std.proofs.lemmas.List.Folds.{length-prefix_len}
use Rattle.spec_rle.specs.Codes.{short_run, long_run, short_literal, long_literal, code_bytes, code_pixels}
use Rattle.spec_rle.specs.Greedy.{run_length, begins_run, up_to_run, run_code, literal_code, first_code, greedy_codes, greedy}

literal_of : (xs ys : List ℕ) (x : ℕ) → xs ≡ x ∷ ys → begins_run xs ≡ false → length (up_to_run xs) ≡ suc (length (up_to_run ys))
literal_of xs ys x e off =
    let off' : begins_run (x ∷ ys) ≡ false = ap begins_run (sym e) ∙ off in
    ap (λ zs. length (up_to_run zs)) e ∙ ap (λ b. length (cond b [] (x ∷ up_to_run ys))) off'

-- one byte more before the next run
pub literal_more : (bytes : List ℕ) (n : ℕ) → n < length bytes → begins_run (drop n bytes) ≡ false
    → length (up_to_run (drop n bytes)) ≡ suc (length (up_to_run (drop (n + 1) bytes)))
literal_more bytes n h off =
    let step : suc n ≡ n + 1 = omega arith in
    literal_of (drop n bytes) (drop (n + 1) bytes) (get_or bytes n 0) (drop-cons bytes n 0 h
    ∙ ap (λ k. get_or bytes n 0 ∷ drop k bytes) step) off

-- equal bytes, and what stands behind them
run_front : (b : ℕ) (bytes : List ℕ)
    → replicate (prefix_len (λ c. c == b) bytes) b ++ drop (prefix_len (λ c. c == b) bytes) bytes ≡ bytes
run_front b [] = refl
run_front b (c ∷ bytes) = by b c bytes (c == b) refl (run_front b bytes)
  where
    by : (b c : ℕ) (bytes : List ℕ) (t : Bool) → (c == b) ≡ t
        → replicate (prefix_len (λ c. c == b) bytes) b ++ drop (prefix_len (λ c. c == b) bytes) bytes ≡ bytes
        → replicate (cond t (1 + prefix_len (λ c. c == b) bytes) 0) b
        ++ drop (cond t (1 + prefix_len (λ c. c == b) bytes) 0) (c ∷ bytes) ≡ c ∷ bytes
    by b c bytes true e more =
        let k = prefix_len (λ c. c == b) bytes in
        let step : 1 + k ≡ suc k = omega arith in
        ap (λ n. replicate n b ++ drop n (c ∷ bytes)) step ∙ (λ i. sym (eqb-true c b e) i ∷ more i)
    by b c bytes false e more = refl

pub run_parts : (b : ℕ) (bytes : List ℕ)
    → replicate (run_length (b ∷ bytes)) b ++ drop (run_length (b ∷ bytes)) (b ∷ bytes) ≡ b ∷ bytes
run_parts b bytes =
    let k = prefix_len (λ c. c == b) bytes in
    let step : run_length (b ∷ bytes) ≡ suc k = omega (arith, length-prefix_len (λ c. c == b) bytes) in
    ap (λ n. replicate n b ++ drop n (b ∷ bytes)) step ∙ ap (λ xs. b ∷ xs) (run_front b bytes)

-- the bytes before the next run, and what stands behind them
pub literal_parts : (bytes : List ℕ) → up_to_run bytes ++ drop (length (up_to_run bytes)) bytes ≡ bytes
literal_parts [] = refl
literal_parts (b ∷ bytes) = by b bytes (begins_run (b ∷ bytes)) (literal_parts bytes)
  where
    by : (b : ℕ) (bytes : List ℕ) (t : Bool) → up_to_run bytes ++ drop (length (up_to_run bytes)) bytes ≡ bytes
        → cond t [] (b ∷ up_to_run bytes) ++ drop (length (cond t [] (b ∷ up_to_run bytes))) (b ∷ bytes) ≡ b ∷ bytes
    by b bytes true more = refl
    by b bytes false more = ap (λ xs. b ∷ xs) more

pub pixels_of_run : (n b : ℕ) → code_pixels (run_code n b) ≡ replicate n b
pixels_of_run n b = by (nat_le n 127)
  where
    by : (t : Bool) → code_pixels (cond t (short_run n b) (long_run n b)) ≡ replicate n b
    by true = refl
    by false = refl

pub pixels_of_literal : (bytes : List ℕ) → code_pixels (literal_code bytes) ≡ bytes
pixels_of_literal bytes = by (nat_le (length bytes) 127)
  where
    by : (t : Bool) → code_pixels (cond t (short_literal bytes) (long_literal bytes)) ≡ bytes
    by true = refl
    by false = refl

-- the first code gives the front of the plane
pub first_gives : (b : ℕ) (bytes : List ℕ)
    → code_pixels (first_code b bytes) ++ drop (length (code_pixels (first_code b bytes))) (b ∷ bytes) ≡ b ∷ bytes
first_gives b bytes = by (begins_run (b ∷ bytes))
  where
    run : code_pixels (run_code (run_length (b ∷ bytes)) b)
        ++ drop (length (code_pixels (run_code (run_length (b ∷ bytes)) b))) (b ∷ bytes) ≡ b ∷ bytes
    run =
        ap (λ ps. ps ++ drop (length ps) (b ∷ bytes)) (pixels_of_run (run_length (b ∷ bytes)) b)
        ∙ (ap (λ n. replicate (run_length (b ∷ bytes)) b ++ drop n (b ∷ bytes)) (length-replicate (run_length (b ∷ bytes)) b)
        ∙ run_parts b bytes)

    literal : code_pixels (literal_code (up_to_run (b ∷ bytes)))
        ++ drop (length (code_pixels (literal_code (up_to_run (b ∷ bytes))))) (b ∷ bytes) ≡ b ∷ bytes
    literal = ap (λ ps. ps ++ drop (length ps) (b ∷ bytes)) (pixels_of_literal (up_to_run (b ∷ bytes))) ∙ literal_parts (b ∷ bytes)

    by : (t : Bool) → let code = cond t (run_code (run_length (b ∷ bytes)) b) (literal_code (up_to_run (b ∷ bytes))) in
        code_pixels code ++ drop (length (code_pixels code)) (b ∷ bytes) ≡ b ∷ bytes
    by true = run
    by false = literal

pub first_is_run : (b : ℕ) (bytes : List ℕ) → begins_run (b ∷ bytes) ≡ true
    → first_code b bytes ≡ run_code (run_length (b ∷ bytes)) b
first_is_run b bytes on = ap (λ t. cond t (run_code (run_length (b ∷ bytes)) b) (literal_code (up_to_run (b ∷ bytes)))) on

pub first_is_literal : (b : ℕ) (bytes : List ℕ) → begins_run (b ∷ bytes) ≡ false
    → first_code b bytes ≡ literal_code (up_to_run (b ∷ bytes))
first_is_literal b bytes off = ap (λ t. cond t (run_code (run_length (b ∷ bytes)) b) (literal_code (up_to_run (b ∷ bytes)))) off

-- the bytes of the codes, with at most so many codes
abbrev pub spell : (n : ℕ) → List ℕ → List ℕ
spell n bytes = flat_map code_bytes (greedy_codes n bytes)

spell_run : (n : ℕ) (bytes : List ℕ) → 0 < length bytes → 0 < n → begins_run bytes ≡ true
    → spell n bytes ≡ code_bytes (run_code (run_length bytes) (slice_index bytes 0))
    ++ spell (n - 1) (drop (run_length bytes) bytes)
spell_run n [] some more on = absurd (omega (arith, some))
spell_run zero (b ∷ bytes) some more on = absurd (omega (arith, more))
spell_run (suc n) (b ∷ bytes) some more on =
    let k : n ≡ suc n - 1 = omega arith in
    let code = first_is_run b bytes on in
    let size = ap length (ap code_pixels code ∙ pixels_of_run (run_length (b ∷ bytes)) b)
    ∙ length-replicate (run_length (b ∷ bytes)) b in
    λ i. code_bytes (code i) ++ spell (k i) (drop (size i) (b ∷ bytes))

spell_literal : (n : ℕ) (bytes : List ℕ) → 0 < length bytes → 0 < n → begins_run bytes ≡ false
    → spell n bytes ≡ code_bytes (literal_code (up_to_run bytes)) ++ spell (n - 1) (drop (length (up_to_run bytes)) bytes)
spell_literal n [] some more off = absurd (omega (arith, some))
spell_literal zero (b ∷ bytes) some more off = absurd (omega (arith, more))
spell_literal (suc n) (b ∷ bytes) some more off =
    let k : n ≡ suc n - 1 = omega arith in
    let code = first_is_literal b bytes off in
    let size = ap length (ap code_pixels code ∙ pixels_of_literal (up_to_run (b ∷ bytes))) in
    λ i. code_bytes (code i) ++ spell (k i) (drop (size i) (b ∷ bytes))

spell_end : (n : ℕ) → spell n [] ≡ []
spell_end zero = refl
spell_end (suc n) = refl

-- a run or a literal has a byte
pub literal_some : (bytes : List ℕ) → 0 < length bytes → begins_run bytes ≡ false → 0 < length (up_to_run bytes)
literal_some [] h off = absurd (omega (arith, h))
literal_some (b ∷ bytes) h off = omega (arith, literal_of (b ∷ bytes) bytes b refl off)

-- what stands in `out` goes before the spelling of what is left
pub record Coding (plane out first : List ℕ) (at : ℕ) : Type 0 where
  pub inside : at ≤ length plane
  pub codes : ℕ
  pub enough : length (drop at plane) ≤ codes
  pub spelled : out ++ spell codes (drop at plane) ≡ first ++ greedy plane

goes : (plane out first code new : List ℕ) (at n : ℕ) (so_far : Coding plane out first at) → 0 < n → n ≤ length (drop at plane)
    → spell so_far.codes (drop at plane) ≡ code ++ spell (so_far.codes - 1) (drop n (drop at plane)) → new ≡ out ++ code
    → Coding plane new first (at + n)
goes plane out first code new at n so_far some within one new_is = record {
  inside = omega (arith, length-drop at plane, so_far.inside, within);
  codes = so_far.codes - 1;
  enough = omega (arith, length-drop (at + n) plane, length-drop at plane, so_far.enough, some);
  spelled = (λ i. new_is i ++ spell (so_far.codes - 1) (sym (drop-drop n at plane) i))
      ∙ (append_assoc out code (spell (so_far.codes - 1) (drop n (drop at plane)))
      ∙ (ap (λ xs. out ++ xs) (sym one) ∙ so_far.spelled));
}

-- what stands from a place on, as code reads it
rest_is : (xs : List ℕ) (at : ℕ) → take (length xs - at) (drop at xs) ≡ drop at xs
rest_is xs at = take_all (length xs - at) (drop at xs) (omega (arith, length-drop at xs))

pub goes_run : (plane out first new : List ℕ) (at n : ℕ) (so_far : Coding plane out first at) → at < length plane → let rest =
    take (length plane - at) (drop at plane) in
    begins_run rest ≡ true → n ≡ run_length rest → 0 < n → n ≤ length rest
    → new ≡ out ++ code_bytes (run_code n (slice_index rest 0)) → Coding plane new first (at + n)
goes_run plane out first new at n so_far more on value some within new_is =
    let r = rest_is plane at in
    let on' : begins_run (drop at plane) ≡ true = ap begins_run (sym r) ∙ on in
    let value' : n ≡ run_length (drop at plane) = value ∙ ap run_length r in
    let size : 0 < length (drop at plane) = omega (arith, length-drop at plane, more) in
    goes plane out first (code_bytes (run_code n (slice_index (drop at plane) 0))) new at n so_far some
    (omega (arith, within, ap length r))
    (spell_run so_far.codes (drop at plane) size (omega (arith, size, so_far.enough)) on'
    ∙ (λ i. code_bytes (run_code (sym value' i) (slice_index (drop at plane) 0))
    ++ spell (so_far.codes - 1) (drop (sym value' i) (drop at plane))))
    (new_is ∙ ap (λ xs. out ++ code_bytes (run_code n (slice_index xs 0))) r)

pub goes_literal : (plane out first new : List ℕ) (at n : ℕ) (so_far : Coding plane out first at) → at < length plane → let rest =
    take (length plane - at) (drop at plane) in
    begins_run rest ≡ false → n ≡ length (up_to_run rest) → n ≤ length rest → new ≡ out ++ code_bytes (literal_code (take n rest))
    → Coding plane new first (at + n)
goes_literal plane out first new at n so_far more off value within new_is =
    let r = rest_is plane at in
    let off' : begins_run (drop at plane) ≡ false = ap begins_run (sym r) ∙ off in
    let value' : n ≡ length (up_to_run (drop at plane)) = value ∙ ap (λ xs. length (up_to_run xs)) r in
    let size : 0 < length (drop at plane) = omega (arith, length-drop at plane, more) in
    let front : take n (drop at plane) ≡ up_to_run (drop at plane) =
    ap (take n) (sym (literal_parts (drop at plane)))
    ∙ take_at (up_to_run (drop at plane)) (drop (length (up_to_run (drop at plane))) (drop at plane)) n (sym value') in
    goes plane out first (code_bytes (literal_code (up_to_run (drop at plane)))) new at n so_far
    (omega (arith, value', literal_some (drop at plane) size off')) (omega (arith, within, ap length r))
    (spell_literal so_far.codes (drop at plane) size (omega (arith, size, so_far.enough)) off'
    ∙ ap (λ k. code_bytes (literal_code (up_to_run (drop at plane)))
    ++ spell (so_far.codes - 1) (drop k (drop at plane))) (sym value'))
    (new_is ∙ ap (λ xs. out ++ code_bytes (literal_code xs)) (ap (take n) r ∙ front))

pub starts : (plane out : List ℕ) → Coding plane out out 0
starts plane out = record { inside = omega arith; codes = length plane; enough = omega arith; spelled = refl }

pub ends : (plane out first : List ℕ) (at : ℕ) → Coding plane out first at → length plane ≤ at → out ≡ first ++ greedy plane
ends plane out first at so_far whole =
    sym (append-nil out) ∙ (ap (λ xs. out ++ xs) (sym (spell_end so_far.codes)
    ∙ ap (spell so_far.codes) (sym (drop_all at plane whole))) ∙ so_far.spelled)
