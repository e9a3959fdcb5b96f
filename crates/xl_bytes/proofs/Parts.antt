-- The bytes of parts that stand one behind another.
use Rattle.std.proofs.Common.{◌≡◌, ℕ, zero, suc, ◌+◌, ◌-◌, ◌<◌, ◌≤◌, ◌++◌, List, [], ◌∷◌, length, take, drop, get_or, set, refl}
use Rattle.std.proofs.Common.{sym, ap, ◌∙◌, arith, append_assoc, append-nil, length-append, take_all}
use Rattle.std.specs.List.{concat}
use Rattle.std.proofs.lemmas.List.Folds.{concat-append}
use Rattle.std.proofs.lemmas.List.{take_more, take_more_set, drop-set-lt, length-set, drop-drop, take_at}

-- one part more
pub concat_more : (parts : List (List ℕ)) (part : List ℕ) → concat (parts ++ part ∷ []) ≡ concat parts ++ part
concat_more parts part = concat-append parts (part ∷ []) ∙ ap (λ xs. concat parts ++ xs) (append-nil part)

-- parts behind others
pub put_behind : (new closed more : List (List ℕ)) (front own : List ℕ) (rest : List ℕ) → new ≡ closed ++ more
    → concat closed ≡ front ++ own → concat new ++ rest ≡ (front ++ own) ++ (concat more ++ rest)
put_behind new closed more front own rest is closed_is =
    ap (λ xs. xs ++ rest) (ap concat is ∙ (concat-append closed more ∙ ap (λ xs. xs ++ concat more) closed_is))
    ∙ append_assoc (front ++ own) (concat more) rest

-- the last part has more behind it
pub last_longer : (parts : List (List ℕ)) (k : ℕ) (part more : List ℕ) → k + 1 ≡ length parts → part ≡ get_or parts k part
    → concat (set parts k (part ++ more)) ≡ concat parts ++ more
last_longer [] k part more h e = absurd (omega (arith, h))
last_longer (first ∷ []) zero part more h e =
    append-nil (part ++ more) ∙ ap (λ xs. xs ++ more) (e ∙ sym (append-nil first))
last_longer (first ∷ next ∷ parts) zero part more h e = absurd (omega (arith, h))
last_longer (first ∷ parts) (suc k) part more h e =
    ap (λ xs. first ++ xs) (last_longer parts k part more (omega (arith, h)) e) ∙ sym (append_assoc first (concat parts) more)

-- a part that is put where it was
pub set_same : (parts : List (List ℕ)) (k : ℕ) (part : List ℕ) → part ≡ get_or parts k part → set parts k part ≡ parts
set_same [] k part e = refl
set_same (first ∷ parts) zero part e = ap (λ x. x ∷ parts) e
set_same (first ∷ parts) (suc k) part e = ap (λ xs. first ∷ xs) (set_same parts k part e)

drop_none : (n : ℕ) → drop {A = ℕ} n [] ≡ []
drop_none zero = refl
drop_none (suc n) = refl

pub drop_both : (n : ℕ) (xs ys : List ℕ) → drop n (xs ++ ys) ≡ drop n xs ++ drop (n - length xs) ys
drop_both n [] ys =
    let all : n ≡ n - 0 = omega arith in
    ap (λ k. drop k ys) all ∙ ap (λ xs. xs ++ drop (n - 0) ys) (sym (drop_none n))
drop_both zero (x ∷ xs) ys = let none : 0 ≡ 0 - length (x ∷ xs) = omega arith in ap (λ k. (x ∷ xs) ++ drop k ys) none
drop_both (suc n) (x ∷ xs) ys =
    let less : n - length xs ≡ suc n - length (x ∷ xs) = omega arith in
    drop_both n xs ys ∙ ap (λ k. drop n xs ++ drop k ys) less

-- the first parts lack their first n bytes, and the others are as before
pub record Skipped (n k left : ℕ) (old new : List (List ℕ)) : Type 0 where
  pub count : length new ≡ length old
  pub done : concat (take k new) ≡ drop n (concat (take k old))
  pub rest : drop k new ≡ drop k old
  pub more : left ≡ n - length (concat (take k old))

pub none_skipped : (n : ℕ) (parts : List (List ℕ)) → Skipped n 0 n parts parts
none_skipped n parts = record { count = refl; done = sym (drop_none n); rest = refl; more = omega arith }

head_of : (k : ℕ) (d : List ℕ) (xs ys : List (List ℕ)) → drop k xs ≡ drop k ys → k < length xs → k < length ys
    → get_or xs k d ≡ get_or ys k d
head_of k d [] ys e h i = absurd (omega (arith, h))
head_of k d (x ∷ xs) [] e h i = absurd (omega (arith, i))
head_of zero d (x ∷ xs) (y ∷ ys) e h i = ap (λ zs. get_or zs 0 d) e
head_of (suc k) d (x ∷ xs) (y ∷ ys) e h i = head_of k d xs ys e (omega (arith, h)) (omega (arith, i))

-- one part more
pub one_skipped : (n k left rest : ℕ) (old new : List (List ℕ)) (part : List ℕ) → Skipped n k left old new → k < length new
    → (was : List ℕ) → was ≡ get_or new k was → part ≡ drop left was → rest ≡ left - length was
    → Skipped n (k + 1) rest old (set new k part)
one_skipped n k left rest old new part so_far within was was_is is rest_is =
    let within' : k < length old = omega (arith, within, so_far.count) in
    let here : was ≡ get_or old k was = was_is ∙ head_of k was new old so_far.rest within within' in
    let before = concat (take k old) in
    let all : concat (take (k + 1) old) ≡ before ++ was =
    ap concat (take_more old k was within') ∙ (concat_more (take k old) (get_or old k was) ∙ ap (λ xs. before ++ xs) (sym here)) in
    let step : k < k + 1 = omega arith in
    record {
      count = length-set new k part ∙ so_far.count;
      done = ap concat (take_more_set new k part within)
          ∙ (concat_more (take k new) part
          ∙ ((λ i. so_far.done i ++ (is ∙ ap (λ m. drop m was) so_far.more) i)
          ∙ (sym (drop_both n before was) ∙ ap (drop n) (sym all))));
      rest = drop-set-lt (k + 1) new k part step
          ∙ (sym (drop-drop 1 k new) ∙ (ap (drop 1) so_far.rest ∙ drop-drop 1 k old));
      more = omega (arith, rest_is, so_far.more, ap length all, length-append before was);
    }

-- all parts
pub all_skipped : (n k left : ℕ) (old new : List (List ℕ)) → Skipped n k left old new → length old ≤ k
    → (concat new ≡ drop n (concat old)) × (left ≡ n - length (concat old))
all_skipped n k left old new so_far whole =
    let olds : take k old ≡ old = take_all k old whole in
    let news : take k new ≡ new = take_all k new (omega (arith, so_far.count, whole)) in (
      ap concat (sym news) ∙ (so_far.done ∙ ap (λ xs. drop n (concat xs)) olds),
      so_far.more ∙ ap (λ xs. n - length (concat xs)) olds,
    )

-- the bytes of one part more
pub bytes_more : (first old new : List ℕ) (parts : List (List ℕ)) (k : ℕ) (part : List ℕ) → k < length parts
    → old ≡ first ++ concat (take k parts) → part ≡ get_or parts k part → new ≡ old ++ part
    → new ≡ first ++ concat (take (k + 1) parts)
bytes_more first old new parts k part within so_far here is =
    is
    ∙ (ap (λ xs. xs ++ part) so_far
    ∙ (append_assoc first (concat (take k parts)) part
    ∙ ap (λ xs. first ++ xs) (ap (λ xs. concat (take k parts) ++ xs) here
    ∙ (sym (concat_more (take k parts) (get_or parts k part)) ∙ ap concat (sym (take_more parts k part within))))))

-- a list that is written over another of its length
pub written_back : (new old : List (List ℕ)) (n : ℕ) → length new ≡ n → take n (new ++ drop (length new) old) ≡ new
written_back new old n size = take_at new (drop (length new) old) n size
