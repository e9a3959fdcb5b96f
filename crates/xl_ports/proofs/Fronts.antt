-- The front of a file or of what a source has left, read piece by piece into a buffer.
use Rattle.std.proofs.Common.{◌≡◌, ℕ, ◌+◌, ◌<◌, ◌≤◌, List, ◌++◌, length, take, drop, Option, Some, None, refl, sym}
use Rattle.std.proofs.Common.{◌∙◌, ap, subst, arith, append_assoc}
use Rattle.std.specs.Prelude.{IfSome}
use Rattle.std.proofs.lemmas.List.{take_all, length-drop, length-take}
use Rattle.std.proofs.Math.Seq.{take-add}
use Rattle.xl_ports.specs.Shelf.{Content, absent, file, GivesPart, GivesFront, selected_content}
use Rattle.xl_ports.specs.Source.{led_by}

-- so much of the buffer is the front of the file; of no file there is nothing
abbrev pub IsFrontOf : (filled : ℕ) → (buffer : List ℕ) → Content → Type 0
IsFrontOf filled buffer absent = filled ≡ 0
IsFrontOf filled buffer (file all) = (filled ≤ length all) × (take filled buffer ≡ take filled all)

-- the same where the content is told
abbrev pub IsFront : (filled : ℕ) → (buffer : List ℕ) → Option Content → Type 0
IsFront filled buffer content = IfSome content (IsFrontOf filled buffer)

-- nothing is filled in
pub nothing_yet : (buffer : List ℕ) (content : Option Content) → IsFront 0 buffer content
nothing_yet buffer None = tt
nothing_yet buffer (Some absent) = refl
nothing_yet buffer (Some (file all)) = (omega arith, refl)

-- what the selected name stands for stays where the selection and the contents do
pub same_content : (s t : Option (List ℕ)) (c d : List ℕ → Option Content) → s ≡ t → c ≡ d
    → selected_content s c ≡ selected_content t d
same_content s t c d e f = λ i. selected_content (e i) (f i)

-- a buffer whose front stays, and which has so much more
front_and_more : (filled k : ℕ) (old new all : List ℕ) → take filled old ≡ take filled all → take filled new ≡ take filled old
    → take k (drop filled new) ≡ take k (drop filled all) → take (filled + k) new ≡ take (filled + k) all
front_and_more filled k old new all front same part =
    take-add filled k new ∙ (λ i. (same ∙ front) i ++ part i) ∙ sym (take-add filled k all)

fits_file : (filled k : ℕ) (new all : List ℕ) → filled ≤ length all → filled + k ≤ length new
    → take k (drop filled new) ≡ take (length (take k (drop filled new))) (drop filled all)
    → (k ≡ length (take k (drop filled new))) × (filled + k ≤ length all)
fits_file filled k new all within fits part =
    let long : length (take k (drop filled new)) ≡ k = omega (arith, length-take k (drop filled new), length-drop filled new) in (
      sym long,
      omega (
        arith,
        long,
        ap length part,
        length-take (length (take k (drop filled new))) (drop filled all),
        length-drop filled all,
      ),
    )

-- one piece more
pub one_piece : (filled k room : ℕ) (old new : List ℕ) (content here : Option Content) → IsFront filled old content → here ≡ content
    → take filled new ≡ take filled old → IfSome here (λ c. GivesPart c filled room (take k (drop filled new)))
    → filled + k ≤ length new → IsFront (filled + k) new content
one_piece filled k room old new content here front is same part fits =
    more content front (subst (λ (o : Option Content). IfSome o (λ c. GivesPart c filled room (take k (drop filled new)))) is part)
  where
    more : (content : Option Content) → IsFront filled old content
        → IfSome content (λ c. GivesPart c filled room (take k (drop filled new))) → IsFront (filled + k) new content
    more None front part = tt
    more (Some absent) front part = absurd part
    more (Some (file all)) front part =
        let long = fits_file filled k new all front.0 fits part.0 in
        let piece : take k (drop filled new) ≡ take k (drop filled all) = part.0
        ∙ ap (λ (n : ℕ). take n (drop filled all)) (sym long.0) in
        (long.1, front_and_more filled k old new all front.1 same piece)

-- the file ended
pub whole : (filled k room limit : ℕ) (old new : List ℕ) (content here : Option Content) → IsFront filled old content
    → here ≡ content → take filled new ≡ take filled old → IfSome here (λ c. GivesPart c filled room (take k (drop filled new)))
    → k ≡ 0 → 0 < room → filled ≤ limit → (cut : List ℕ) → cut ≡ take filled new → IfSome content (λ c. GivesFront c limit cut)
whole filled k room limit old new content here front is same part none some short cut cut_is =
    all_of content front (subst (λ (o : Option Content). IfSome o (λ c. GivesPart c filled room (take k (drop filled new)))) is
    part)
  where
    all_of : (content : Option Content) → IsFront filled old content
        → IfSome content (λ c. GivesPart c filled room (take k (drop filled new))) → IfSome content (λ c. GivesFront c limit cut)
    all_of None front part = tt
    all_of (Some absent) front part = absurd part
    all_of (Some (file all)) front part =
        let ends : length all ≤ filled = part.1 (ap (λ (n : ℕ). take n (drop filled new)) none) some in
        cut_is ∙ same ∙ front.1 ∙ take_all filled all ends ∙ sym (take_all limit all (omega arith))

-- the limit was reached
pub up_to_limit : (filled limit : ℕ) (buffer : List ℕ) (content : Option Content) → IsFront filled buffer content → filled ≡ limit
    → 0 < limit → (cut : List ℕ) → cut ≡ take filled buffer → IfSome content (λ c. GivesFront c limit cut)
up_to_limit filled limit buffer None front full some cut cut_is = tt
up_to_limit filled limit buffer (Some absent) front full some cut cut_is = absurd (omega arith)
up_to_limit filled limit buffer (Some (file all)) front full some cut cut_is = cut_is ∙ front.1 ∙ ap (λ (n : ℕ). take n all) full

-- one piece more of a source
pub one_read : (filled k : ℕ) (old new : List ℕ) (before mid after : Option (List ℕ)) → before ≡ led_by (take filled old) mid
    → take filled new ≡ take filled old → mid ≡ led_by (take k (drop filled new)) after
    → before ≡ led_by (take (filled + k) new) after
one_read filled k old new before mid after so_far same given =
    so_far ∙ (λ i. led_by (sym same i) (given i)) ∙ twice after ∙ ap (λ (l : List ℕ). led_by l after) (sym (take-add filled k new))
  where
    twice : (after : Option (List ℕ))
        → led_by (take filled new) (led_by (take k (drop filled new)) after)
        ≡ led_by (take filled new ++ take k (drop filled new)) after
    twice None = refl
    twice (Some more) = ap Some (sym (append_assoc (take filled new) (take k (drop filled new)) more))
