-- Desks for the sessions, one after another.
use Rattle.std.proofs.Common.{◌≡◌, ℕ, zero, suc, ◌-◌, ◌<◌, ◌≤◌, List, [], ◌∷◌, ◌++◌, length, map, replicate, refl, sym, ◌∙◌, ap, arith, get_or}
use Rattle.std.proofs.Common.{append_assoc, append-nil, length-append}
use Rattle.std.specs.Prelude.{Option, slice_get, slice_set, unwrap_or}
use Rattle.std.proofs.lemmas.List.{length-map, map_push, get_or-map, get_or_default}
use Rattle.spec_filters.specs.declared.FilterState.{FilterState}
use Rattle.xl_filters.specs.declared.chest.Chest.{Chest}
use Rattle.xl_filters.specs.Chests.{states_in}
use Rattle.xl_desk.specs.declared.desk.Desk.{Desk}
use Rattle.xl_audit.specs.Auditing.{padded}

-- ---- a desk for each chest

-- the chests of the desks so far, and those that are left
pub desks_more : {D C X : Type 0} (f : D → X) (g : C → X) (desks new : List D) (rest more all : List C) (d : D) (c : C)
    → map f desks ++ map g rest ≡ map g all → rest ≡ c ∷ more → new ≡ desks ++ d ∷ [] → f d ≡ g c
    → map f new ++ map g more ≡ map g all
desks_more f g desks new rest more all d c so_far next pushed same =
    ap (λ ds. map f ds ++ map g more) pushed
    ∙ (ap (λ xs. xs ++ map g more) (map_push f desks d)
    ∙ (append_assoc (map f desks) (f d ∷ []) (map g more)
    ∙ (ap (λ x. map f desks ++ x ∷ map g more) same
    ∙ (ap (λ cs. map f desks ++ map g cs) (sym next) ∙ so_far))))

pub desks_all : {D C X : Type 0} (f : D → X) (g : C → X) (desks : List D) (rest all : List C) → map f desks ++ map g rest ≡ map g all
    → rest ≡ [] → map f desks ≡ map g all
desks_all f g desks rest all so_far none =
    sym (append-nil (map f desks)) ∙ (ap (λ cs. map f desks ++ map g cs) (sym none) ∙ so_far)

-- ---- and for the sessions without one

pub padded_more : (chests : List (List (Option FilterState))) → length chests < 8 → padded (chests ++ [] ∷ []) ≡ padded chests
padded_more chests lt = go (8 - length chests) refl where
  none : ℕ → List (List (Option FilterState))
  none n = replicate n []

  go : (n : ℕ) → 8 - length chests ≡ n → padded (chests ++ [] ∷ []) ≡ padded chests
  go zero is = absurd (omega (arith, is, lt))
  go (suc n) is =
      let long = length-append chests ([] ∷ []) in
      let left : 8 - length (chests ++ [] ∷ []) ≡ n = omega (arith, is, long) in
      ap (λ k. (chests ++ [] ∷ []) ++ none k) left
      ∙ (append_assoc chests ([] ∷ []) (none n) ∙ ap (λ k. chests ++ none k) (sym is))

pub padded_whole : (chests : List (List (Option FilterState))) → 8 ≤ length chests → padded chests ≡ chests
padded_whole chests le =
    let z : 8 - length chests ≡ 0 = omega (arith, le) in
    let none : ℕ → List (List (Option FilterState)) = λ n. replicate n [] in
    ap (λ k. chests ++ none k) z ∙ append-nil chests

length_none : (n : ℕ) → length (replicate {A = List (Option FilterState)} n []) ≡ n
length_none zero = refl
length_none (suc n) = ap (λ k. suc k) (length_none n)

pub length_padded : (chests : List (List (Option FilterState))) → length chests ≤ 8 → length (padded chests) ≡ 8
length_padded chests le =
    let long = length-append chests (replicate (8 - length chests) []) in
    let rest = length_none (8 - length chests) in
    omega (arith, long, rest, le)

none_at : (n session : ℕ) → get_or (replicate {A = List (Option FilterState)} n []) session [] ≡ []
none_at zero session = refl
none_at (suc n) zero = refl
none_at (suc n) (suc session) = none_at n session

-- a session has its chest, or one without slots
pub padded_at : (chests : List (List (Option FilterState))) (n session : ℕ)
    → get_or (chests ++ replicate n []) session [] ≡ unwrap_or (slice_get chests session) []
padded_at [] n session = none_at n session
padded_at (c ∷ chests) n zero = refl
padded_at (c ∷ chests) n (suc session) = padded_at chests n session

-- ---- one desk is written

map_set : {D X : Type 0} (f : D → X) (ds : List D) (i : ℕ) (d : D) → map f (slice_set ds i d) ≡ slice_set (map f ds) i (f d)
map_set f [] i d = refl
map_set f (x ∷ ds) zero d = refl
map_set f (x ∷ ds) (suc i) d = ap (λ xs. f x ∷ xs) (map_set f ds i d)

pub desk_written : {D X : Type 0} (f : D → X) (ds new : List D) (i : ℕ) (d : D) → new ≡ slice_set ds i d
    → map f new ≡ slice_set (map f ds) i (f d)
desk_written f ds new i d is = ap (map f) is ∙ map_set f ds i d

pub desk_at : {D X : Type 0} (f : D → X) (ds : List D) (i : ℕ) (d : D) (e : X) → i < length ds → d ≡ get_or ds i d
    → get_or (map f ds) i e ≡ f d
desk_at f ds i d e lt is = get_or-map f ds i d e lt ∙ ap f (sym is)

-- ---- desks, as a walk sees them

module _ {X : Type 0} {H : X → Type 0} (state : (x : X) × H x → FilterState) where
  abbrev pub chest_of : Desk X H → List (Option FilterState)
  chest_of d = states_in state d.chest

  abbrev pub chests_of : List (Desk X H) → List (List (Option FilterState))
  chests_of desks = map chest_of desks

  abbrev pub first_chests : List (Chest X H) → List (List (Option FilterState))
  first_chests chests = map (λ (c : Chest X H). states_in state c) chests

  pub chests_begin : (desks : List (Desk X H)) (rest all : List (Chest X H)) → desks ≡ [] → rest ≡ all
      → chests_of desks ++ first_chests rest ≡ first_chests all
  chests_begin desks rest all none is =
      ap (λ (ds : List (Desk X H)). chests_of ds ++ first_chests rest) none ∙ ap first_chests is

  pub chests_more : (desks new : List (Desk X H)) (rest more all : List (Chest X H)) (d : Desk X H) (c : Chest X H)
      → chests_of desks ++ first_chests rest ≡ first_chests all → rest ≡ c ∷ more → new ≡ desks ++ d ∷ [] → d.chest ≡ c
      → chests_of new ++ first_chests more ≡ first_chests all
  chests_more desks new rest more all d c so_far next pushed same =
      desks_more chest_of (λ (x : Chest X H). states_in state x) desks new rest more all d c so_far next pushed
      (ap (λ (x : Chest X H). states_in state x) same)

  pub chests_all : (desks : List (Desk X H)) (rest all : List (Chest X H)) → chests_of desks ++ first_chests rest ≡ first_chests all
      → rest ≡ [] → chests_of desks ≡ first_chests all
  chests_all desks rest all so_far none =
      desks_all chest_of (λ (x : Chest X H). states_in state x) desks rest all so_far none

  pub chests_padded : (desks new : List (Desk X H)) (d : Desk X H) → length desks < 8 → new ≡ desks ++ d ∷ [] → chest_of d ≡ []
      → padded (chests_of new) ≡ padded (chests_of desks)
  chests_padded desks new d lt pushed none =
      let long = length-map desks chest_of in
      ap (λ (ds : List (Desk X H)). padded (chests_of ds)) pushed
      ∙ (ap padded (map_push chest_of desks d)
      ∙ (ap (λ (c : List (Option FilterState)). padded (chests_of desks ++ c ∷ [])) none
      ∙ padded_more (chests_of desks) (omega (arith, long, lt))))

  pub chests_whole : (desks : List (Desk X H)) → 8 ≤ length desks → padded (chests_of desks) ≡ chests_of desks
  chests_whole desks le =
      let long = length-map desks chest_of in padded_whole (chests_of desks) (omega (arith, long, le))

  pub few_chests : (chests : List (Chest X H)) → length chests ≤ 8 → length (first_chests chests) ≤ 8
  few_chests chests le =
      let long = length-map chests (λ (c : Chest X H). states_in state c) in omega (arith, long, le)

  pub few_desks : (desks : List (Desk X H)) (chests : List (Chest X H)) → chests_of desks ≡ first_chests chests → length chests ≤ 8
      → length desks ≤ 8
  few_desks desks chests same le =
      let d = length-map desks chest_of in
      let c = length-map chests (λ (x : Chest X H). states_in state x) in
      let l = ap length same in omega (arith, d, c, l, le)

  -- the chest of the desk at a place, and the chests once that desk is written
  pub chest_at : (desks : List (Desk X H)) (i : ℕ) (d e : Desk X H) → i < length desks → d ≡ get_or desks i e
      → chest_of d ≡ get_or (chests_of desks) i []
  chest_at desks i d e lt is = sym (desk_at chest_of desks i d [] lt (is ∙ get_or_default desks i e d lt))

  pub chest_written : (desks new : List (Desk X H)) (i : ℕ) (d : Desk X H) → new ≡ slice_set desks i d
      → chests_of new ≡ slice_set (chests_of desks) i (chest_of d)
  chest_written desks new i d is = desk_written chest_of desks new i d is
