-- What the sessions bring, by the lists of the script and of the filters.
use Rattle.std.proofs.Common.{◌≡◌, ℕ, zero, suc, ◌+◌, ◌<◌, ◌^◌, List, [], ◌∷◌, ◌++◌, length, map, drop, Some, refl}
use Rattle.std.proofs.Common.{sym, ap, ◌∙◌, subst, arith, length-append}
use Rattle.std.specs.Prelude.{Vec}
use Rattle.std.specs.List.{AllByRecursion}
use Rattle.std.specs.declared.alloc.Global.{Global}
use Rattle.std.proofs.lemmas.List.{length-map}
use Rattle.spec_filters.specs.declared.FilterState.{FilterState}
use Rattle.spec_script.specs.Script as script
use Rattle.spec_script.specs.Fits.{AreFit, EachFit, FitsFilters}
use Rattle.xl_filters.specs.Chests.{states}
use Rattle.xl_filters.specs.declared.chest.Slot.{Slot}
use Rattle.xl_script.specs.Lines.{lines_of, lists_of}
use Rattle.xl_script.specs.declared.script.Line.{Line}
use Rattle.xl_filters.specs.Chests.{states_of}
use Rattle.spec_script.specs.Script.{list_at}
use Rattle.xl_sessions.specs.Players.{IsBrought, IsFitPart, AreBrought, AreFitParts}
use Rattle.xl_run.specs.Filters.{boxes_at}
use Rattle.xl_run.specs.Filters.{HasAll}
use Rattle.xl_sessions.specs.declared.players.SessionPart.{SessionPart}
use Rattle.xl_run.proofs.Boxes.{full_has_all, full_states, first_left, states_at, count_at}
use Rattle.xl_sessions.proofs.Zips.{from_first_more}

-- ---- lists

pub front_of_drop : {A : Type 0} (n : ℕ) (xs : List (List A)) (x : List A) (rest : List (List A)) → drop n xs ≡ x ∷ rest
    → list_at xs n ≡ x
front_of_drop zero xs x rest is = ap (λ l. list_at l 0) is
front_of_drop (suc n) [] x rest is = let longer = ap length is in absurd (omega (arith, longer))
front_of_drop (suc n) (y ∷ ys) x rest is = front_of_drop n ys x rest is

pub rest_of_drop : {A : Type 0} (n : ℕ) (xs : List A) (x : A) (rest : List A) → drop n xs ≡ x ∷ rest → rest ≡ drop (suc n) xs
rest_of_drop zero xs x rest is = sym (ap (drop 1) is)
rest_of_drop (suc n) [] x rest is = let longer = ap length is in absurd (omega (arith, longer))
rest_of_drop (suc n) (y ∷ ys) x rest is = rest_of_drop n ys x rest is

pub drop_more : {A : Type 0} (xs : List A) (n : ℕ) → drop 1 (drop n xs) ≡ drop (suc n) xs
drop_more xs zero = refl
drop_more [] (suc n) = refl
drop_more (x ∷ xs) (suc n) = drop_more xs n

-- ---- along the sessions

-- the parts of the sessions below a number are there, and the lists and boxes that are left fit
pub record ArePartsUpTo {B X : Type 0} {H : X → Type 0} (state : B → FilterState) (in_slot : Slot X H → FilterState)
    (lists : List (List script.Line)) (boxes : List (Vec B Global))
    (left : List (List Line)) (left_boxes : List (Vec B Global)) (session : ℕ) (parts : List (SessionPart X H)) : Type 0 where
  pub places : session + length left ≡ 8
  pub count : length parts ≡ session
  pub left_are : lists_of left ≡ drop session lists
  pub boxes_are : left_boxes ≡ drop session boxes
  pub short : AllByRecursion (λ (b : Vec B Global). length b.items < 2 ^ 32) left_boxes
  pub fit : EachFit (map length (states_of state boxes)) session (lists_of left)
  pub brought : AreBrought in_slot (states_of state boxes) lists 0 parts
  pub fit_parts : AreFitParts in_slot parts

module _ {B X : Type 0} {H : X → Type 0} (state : B → FilterState) (in_slot : Slot X H → FilterState) where
  pub parts_none : (all left : List (List Line)) (boxes : List (Vec B Global)) (parts : List (SessionPart X H)) → left ≡ all
      → length left ≡ 8 → parts ≡ [] → AllByRecursion (λ (b : Vec B Global). length b.items < 2 ^ 32) boxes
      → FitsFilters (map length (states_of state boxes)) (lists_of all)
      → ArePartsUpTo state in_slot (lists_of all) boxes left boxes 0 parts
  parts_none all left boxes parts whole eight none short fits = record {
    places = omega (arith, eight);
    count = ap length none;
    left_are = ap lists_of whole;
    boxes_are = refl;
    short = short;
    fit = subst (λ (ls : List (List Line)). EachFit (map length (states_of state boxes)) 0 (lists_of ls)) (sym whole) fits.each;
    brought = subst (λ (ps : List (SessionPart X H)). AreBrought in_slot (states_of state boxes) (lists_of all) 0 ps) (sym none) tt;
    fit_parts = subst (λ (ps : List (SessionPart X H)). AreFitParts in_slot ps) (sym none) tt;
  }

  module _ {lists : List (List script.Line)} {boxes : List (Vec B Global)} {left : List (List Line)}
      {left_boxes : List (Vec B Global)} {session : ℕ} {parts : List (SessionPart X H)}
      (lines : List Line) (rest : List (List Line)) (up : ArePartsUpTo state in_slot lists boxes left left_boxes session parts)
      (turn : left ≡ lines ∷ rest) where
    pub parts_below : session < 8
    parts_below = let count = ap length turn in let places = up.places in omega arith

    here : (items : List B) → items ≡ boxes_at left_boxes 0 → items ≡ boxes_at boxes session
    here items first = first ∙ ap (λ (l : List (Vec B Global)). boxes_at l 0) up.boxes_are ∙ first_left boxes session

    lines_fit : (items : List B) → items ≡ boxes_at left_boxes 0 → AreFit (length items) [] (lines_of lines)
    lines_fit items first =
        subst (λ (n : ℕ). AreFit n [] (lines_of lines)) (count_at state boxes session ∙ ap length (sym (here items first)))
        (subst (λ (ls : List (List Line)). EachFit (map length (states_of state boxes)) session (lists_of ls)) turn up.fit).0

    pub parts_more : (items : List B) (rest_boxes : List (Vec B Global)) (p : SessionPart X H) (next : ℕ) → items ≡ boxes_at left_boxes 0
        → rest_boxes ≡ drop 1 left_boxes
        → AllByRecursion (λ (b : Vec B Global). length b.items < 2 ^ 32) rest_boxes → next ≡ session + 1 → p.session ≡ session
        → p.lines.items ≡ lines
        → states in_slot p.desk.chest ≡ map (λ b. Some (state b)) items
        → ArePartsUpTo state in_slot lists boxes rest rest_boxes next (parts ++ p ∷ [])
    parts_more items rest_boxes p next first others short next_is number own_lines chest =
        let count = ap length turn in
        let places = up.places in
        let many = up.count in
        let longer = length-append parts (p ∷ []) in
        let is_next : suc session ≡ next = omega (arith, next_is) in
        let there : drop session lists ≡ lines_of lines ∷ lists_of rest = sym up.left_are ∙ ap lists_of turn in
        let filters = map state items in
        let own_states : filters ≡ list_at (states_of state boxes) session =
        ap (map state) (here items first) ∙ sym (states_at state boxes session) in
        let full : states in_slot p.desk.chest ≡ map (λ s. Some s) filters = chest ∙ full_states state items in
        let slots : length items ≡ length (states in_slot p.desk.chest) =
        sym (ap length chest ∙ length-map items (λ b. Some (state b))) in
        let place : 0 + length parts ≡ session = omega (arith, many) in
        let brought : IsBrought in_slot session (list_at (states_of state boxes) session) (list_at lists session) p = record {
          session_is = number;
          lines_are = ap lines_of own_lines ∙ sym (front_of_drop session lists (lines_of lines) (lists_of rest) there);
          chest_is = full ∙ ap (λ fs. map (λ s. Some s) fs) own_states;
        } in
        let fit : IsFitPart in_slot session p = record {
          session_is = number;
          all = subst HasAll (sym full) (full_has_all filters);
          fit = subst (λ (n : ℕ). AreFit n [] (lines_of p.lines.items)) slots
              (subst (λ (ls : List Line). AreFit (length items) [] (lines_of ls)) (sym own_lines) (lines_fit items first));
        } in
        record {
          places = omega (arith, next_is, count, places);
          count = omega (arith, longer, many, next_is);
          left_are = rest_of_drop session lists (lines_of lines) (lists_of rest) there ∙ ap (λ (k : ℕ). drop k lists) is_next;
          boxes_are = others ∙ ap (drop 1) up.boxes_are ∙ drop_more boxes session ∙ ap (λ (k : ℕ). drop k boxes) is_next;
          short = short;
          fit = subst (λ (k : ℕ). EachFit (map length (states_of state boxes)) k (lists_of rest)) is_next
              (subst (λ (ls : List (List Line)). EachFit (map length (states_of state boxes)) session (lists_of ls)) turn up.fit).1;
          brought = from_first_more (λ n q. IsBrought in_slot n (list_at (states_of state boxes) n) (list_at lists n) q) 0 parts p
              up.brought
              (subst (λ (n : ℕ). IsBrought in_slot n (list_at (states_of state boxes) n) (list_at lists n) p) (sym place) brought);
          fit_parts = from_first_more (IsFitPart in_slot) 0 parts p up.fit_parts
              (subst (λ (n : ℕ). IsFitPart in_slot n p) (sym place) fit);
        }

  pub parts_all : {lists : List (List script.Line)} {boxes : List (Vec B Global)} {left : List (List Line)}
      {left_boxes : List (Vec B Global)} {session : ℕ} {parts : List (SessionPart X H)}
      → ArePartsUpTo state in_slot lists boxes left left_boxes session parts → length left ≡ 0 → length parts ≡ 8
  parts_all up none = let places = up.places in let count = up.count in omega (arith, places, count, none)
