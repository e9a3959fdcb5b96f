-- Lists of pairs that are added one behind the other.
use Rattle.std.proofs.Common.{◌≡◌, ℕ, false, cond, eqb, List, [], ◌∷◌, ◌++◌, map, refl, sym, ◌∙◌, ap, append_assoc}
use Rattle.std.proofs.lemmas.List.{append-nil}
use Rattle.std.specs.Prelude.{not, filter, flat_map}
use Rattle.std.specs.List.{list_any}
use Rattle.spec_document.specs.declared.Rect.{Rect}
use Rattle.spec_document.specs.Rect.{is_empty, meet, sheet}
use Rattle.spec_document.specs.Document.{Document}
use Rattle.spec_damage.specs.Damage.{Pair, cut, with_above, joined, stacks_above}
use Rattle.xl_tree.specs.declared.naming.NodeId.{NodeId}
use Rattle.xl_regions.specs.Pairs.{numbers, pairs_of, copies, spread, Adds}

-- one call behind the other
added : (a b c : List (NodeId × Rect)) (ps qs : List Pair) → Adds a b ps → Adds b c qs → Adds a c (ps ++ qs)
added a b c ps qs p q = q ∙ (ap (λ z. z ++ qs) p ∙ append_assoc (pairs_of a) ps qs)

map-append : {A B : Type 0} (f : A → B) (xs ys : List A) → map f (xs ++ ys) ≡ map f xs ++ map f ys
map-append f [] ys = refl
map-append f (x ∷ xs) ys = ap (λ z. f x ∷ z) (map-append f xs ys)

-- a pair with points on it
spread_one : (old new : Document) (p : Pair) (os ns : List ℕ) → is_empty (cut old p).rect ≡ false
    → os ≡ stacks_above old.nodes p.stack → ns ≡ stacks_above new.nodes p.stack
    → spread old new (p ∷ []) ≡ cut old p
    ∷ (copies (cut old p).rect os ++ copies (cut old p).rect (filter (λ n. not (list_any (λ m. eqb m n) os)) ns))
spread_one old new p os ns e is_old is_new =
    let rect = (cut old p).rect in
    let whole : spread old new (p ∷ []) ≡ with_above old new (cut old p) ++ [] =
    ap (λ b. flat_map (with_above old new) (cond (not b) (cut old p ∷ []) [])) e in
    let there : copies rect (joined (stacks_above old.nodes p.stack) (stacks_above new.nodes p.stack))
    ≡ copies rect (joined os ns) = λ i. copies rect (joined (sym is_old i) (sym is_new i)) in
    whole ∙ (append-nil (with_above old new (cut old p))
    ∙ ap (λ z. cut old p ∷ z) (there
    ∙ map-append (λ stack. record { stack = stack; rect = rect }) os (filter (λ n. not (list_any (λ m. eqb m n) os)) ns)))

pushed : (list : List (NodeId × Rect)) (stack : NodeId) (rect : Rect)
    → Adds list (list ++ (stack, rect) ∷ []) (record { stack = stack.0; rect = rect } ∷ [])
pushed list stack rect = map-append (λ e. record { stack = e.0.0; rect = e.1 }) list ((stack, rect) ∷ [])

-- a pair with points on the canvas, and then its copies
pub added_one : (old new : Document) (a b c d : List (NodeId × Rect)) (stack : NodeId) (rect part : Rect) (os ns : List NodeId)
    → part ≡ meet rect (sheet old.width old.height) → is_empty part ≡ false
    → numbers os ≡ stacks_above old.nodes stack.0 → numbers ns ≡ stacks_above new.nodes stack.0
    → b ≡ a ++ (stack, part) ∷ [] → Adds b c (copies part (numbers os))
    → Adds c d (copies part (filter (λ n. not (list_any (λ m. eqb m n) (numbers os))) (numbers ns)))
    → Adds a d (spread old new (record { stack = stack.0; rect = rect } ∷ []))
added_one old new a b c d stack rect part os ns is some is_old is_new push first second =
    let others : List ℕ = filter (λ n. not (list_any (λ m. eqb m n) (numbers os))) (numbers ns) in
    let own : Adds a b (record { stack = stack.0; rect = part } ∷ []) = ap pairs_of push ∙ pushed a stack part in
    let more = added a b c (record { stack = stack.0; rect = part } ∷ []) (copies part (numbers os)) own first in
    let all = added a c d (record { stack = stack.0; rect = part } ∷ copies part (numbers os)) (copies part others) more second in
    let shown = spread_one old new (record { stack = stack.0; rect = rect }) (numbers os) (numbers ns) (sym (ap is_empty is)
    ∙ some) is_old is_new in
    all ∙ (ap (λ r. pairs_of a ++ record { stack = stack.0; rect = r } ∷ (copies r (numbers os) ++ copies r others)) is
    ∙ ap (λ z. pairs_of a ++ z) (sym shown))
