-- The walk through the channels of a document.
use Rattle.std.proofs.Common.{◌≡◌, ℕ, zero, suc, ◌+◌, ◌<◌, ◌≤◌, Bool, List, [], ◌∷◌, ◌++◌, length, map, take, get_or}
use Rattle.std.proofs.Common.{sym, ap, ◌∙◌, subst, arith, length-append}
use Rattle.std.specs.List.{concat, AllByRecursion}
use Rattle.std.proofs.lemmas.List.{map_more}
use Rattle.spec_document.specs.Document.{Channel}
use Rattle.spec_layout.specs.Layout.{Sheet, plain_sheet}
use Rattle.spec_layout.proofs.AnyCoder.{sheet_any}
use Rattle.spec_layout.proofs.Following.{follow_as}
use Rattle.spec_rle.specs.Codes.{AnySpelling}
use Rattle.xl_layout.proofs.Lengths.{sheets_short}
use Rattle.xl_layout.specs.Costs.{sheet_cost, sheet_costs}
use Rattle.xl_layout.specs.Writable.{IsWritableSheet}
use Rattle.xl_write.specs.Appended.{SheetAppended, PiecesAppended, IsSheetAt}
use Rattle.xl_write.proofs.Followed.{one_appended, both_appended}

pub sheet_appended : (fits : List ℕ → List ℕ
    → Type 0) (compression : ℕ) (mark : Bool) (inside c : Channel) (old new begins more : List ℕ) (begin : ℕ) → inside ≡ c
    → begin ≡ length old
    → more ≡ begins ++ begin ∷ [] → SheetAppended fits compression mark inside old new
    → PiecesAppended (IsSheetAt fits compression) (record { is_selection = mark; channel = c } ∷ []) old new begins more
sheet_appended fits compression mark inside c old new begins more begin same eb em a =
    let Goal : Channel → Type 0 = λ c.
    PiecesAppended (IsSheetAt fits compression) (record { is_selection = mark; channel = c } ∷ []) old new begins more in
    subst Goal same (one_appended (IsSheetAt fits compression)
    (record { is_selection = mark; channel = inside }) a.bytes old new begins more begin a.sheet a.appended eb em)

-- how far channels go
pub sheets_end : (fits : List ℕ → List ℕ → Type 0) (compression : ℕ) (ss : List Sheet) (old new begins more : List ℕ)
    → AllByRecursion IsWritableSheet ss → PiecesAppended (IsSheetAt fits compression) ss old new begins more
    → length new ≤ length old + sheet_costs ss
sheets_end fits compression ss old new begins more all p =
    let any = follow_as (IsSheetAt fits compression) (IsSheetAt AnySpelling compression)
    (λ at s piece is. sheet_any fits compression at s.is_selection s.channel piece is) (length old) ss p.pieces p.are in
    omega (
      arith,
      ap length p.appended,
      length-append old (concat p.pieces),
      sheets_short compression (length old) ss p.pieces all any,
    )

pub writable_at : (cs : List Channel) (i : ℕ) (d : Channel) → i < length cs → AllByRecursion IsWritableSheet (map plain_sheet cs)
    → IsWritableSheet (plain_sheet (get_or cs i d))
writable_at [] i d within all = absurd (omega (arith, within))
writable_at (c ∷ cs) zero d within all = all.0
writable_at (c ∷ cs) (suc i) d within all = writable_at cs i d (omega (arith, within)) all.1

pub writable_first : (cs : List Channel) (i : ℕ) → AllByRecursion IsWritableSheet (map plain_sheet cs)
    → AllByRecursion IsWritableSheet (map plain_sheet (take i cs))
writable_first [] zero all = tt
writable_first [] (suc i) all = tt
writable_first (c ∷ cs) zero all = tt
writable_first (c ∷ cs) (suc i) all = (all.0, writable_first cs i all.1)

pub costs_at : (cs : List Channel) (i : ℕ) (d : Channel) → i < length cs
    → sheet_costs (map plain_sheet (take i cs)) + sheet_cost (plain_sheet (get_or cs i d)) ≤ sheet_costs (map plain_sheet cs)
costs_at [] i d within = absurd (omega (arith, within))
costs_at (c ∷ cs) zero d within = omega arith
costs_at (c ∷ cs) (suc i) d within = omega (arith, costs_at cs i d (omega (arith, within)))

pub one_channel_more : (fits : List ℕ → List ℕ
    → Type 0) (compression : ℕ) (cs : List Channel) (i : ℕ) (d c : Channel) (old mid new a b e : List ℕ) → i < length cs
    → c ≡ get_or cs i d
    → PiecesAppended (IsSheetAt fits compression) (map plain_sheet (take i cs)) old mid a b
    → PiecesAppended (IsSheetAt fits compression) (plain_sheet c ∷ []) mid new b e
    → PiecesAppended (IsSheetAt fits compression) (map plain_sheet (take (i + 1) cs)) old new a e
one_channel_more fits compression cs i d c old mid new a b e within is p q =
    let Goal : List Sheet → Type 0 = λ ss. PiecesAppended (IsSheetAt fits compression) ss old new a e in
    let same : map plain_sheet (take i cs) ++ plain_sheet c ∷ [] ≡ map plain_sheet (take (i + 1) cs) =
    ap (λ c. map plain_sheet (take i cs) ++ plain_sheet c ∷ []) is ∙ sym (map_more plain_sheet cs i d within) in
    subst Goal same (both_appended (IsSheetAt fits compression) (map plain_sheet (take i cs)) (plain_sheet c
    ∷ []) old mid new a b e p q)

module _ {X : Type 0} (P : X → Type 0) where
  pub all_before : (xs ys : List X) → AllByRecursion P (xs ++ ys) → AllByRecursion P xs
  all_before [] ys h = tt
  all_before (x ∷ xs) ys h = (h.0, all_before xs ys h.1)

  pub all_behind : (xs ys : List X) → AllByRecursion P (xs ++ ys) → AllByRecursion P ys
  all_behind [] ys h = h
  all_behind (x ∷ xs) ys h = all_behind xs ys h.1
