-- What a shelf in memory tells after each of its calls.
use Rattle.std.proofs.Common.{◌≡◌, ◌⊎◌, inl, inr, ⊎_elim, ℕ, List, [], ◌∷◌, ◌++◌, Bool, true, false, Option, Some}
use Rattle.std.proofs.Common.{None, Result, Ok, Err, refl, sym, ◌∙◌, ap, subst, arith}
use Rattle.std.specs.Prelude.{if◌then◌else◌, Contains, option_map, IfSome}
use Rattle.std.specs.Str.{bytes_eq}
use Rattle.std.proofs.lemmas.Slice.Eq.{bytes_eq-Decides}
use Rattle.std.proofs.lemmas.List.{append-nil}
use Rattle.std.proofs.lemmas.List.Elements.{Contains-append_left, Contains-append_right, Contains-append_cases}
use Rattle.std.proofs.lemmas.List.Elements.{Contains-push, Contains-push_cases}
use Rattle.xl_ports.specs.Shelf.{Content, file, IsFile}
use Rattle.xl_ports.specs.Disk.{MayLeave, Stays, IsQuiet, Swaps, SwapsIn, Settles, SettlesAt}
use Rattle.xl_ports.proofs.Moments.{stays_on}
use Rattle.xl_fakes.specs.Kept.{MemoryState, Standing, Past, standing, found, gone_in, disk_of, draft_in, known_content}
use Rattle.xl_fakes.specs.Kept.{NotesOrNot, KeepsFiles, IsSwapped, IsSettled}
use Rattle.xl_fakes.proofs.Places.{named, not_named}
use Rattle.xl_fakes.proofs.Records.{elapses_noted, elapses_push, stays_if, quiet_if}

pub keeps_quiet : (a b : MemoryState) → KeepsFiles a b → IsQuiet (disk_of a) (disk_of b)
keeps_quiet a b keeps = quiet_if a b (λ name. λ i. standing (keeps.here i) (keeps.files i) name) keeps.log

pub keeps_content : (a b : MemoryState) → KeepsFiles a b → known_content b ≡ known_content a
keeps_content a b keeps = λ i name. Some (standing (keeps.here i) (keeps.files i) name).read

pub same_content : (a b : MemoryState) → ((name : List ℕ) → standing b.here b.files name ≡ standing a.here a.files name)
    → known_content b ≡ known_content a
same_content a b same = λ i name. Some (same name i).read

-- what may be left by what is kept
abbrev pub Leaves : Standing → Content → Type 0
Leaves h c = (c ≡ h.read) ⊎ Contains h.others c

-- under the selected name
at_name : (here : Option Standing) (files : List Standing) (h : Standing) → here ≡ Some h → standing here files h.name ≡ h
at_name here files h is = ap (λ (o : Option Standing). standing o files h.name) is
    ∙ ap (λ (r : Bool). if r then h else found files h.name) (named h.name h.name refl)

-- under any other
off_name : (here : Option Standing) (files : List Standing) (h : Standing) (other : List ℕ) → here ≡ Some h → (other ≡ h.name → ⊥)
    → standing here files other ≡ found files other
off_name here files h other is differ = ap (λ (o : Option Standing). standing o files other) is
    ∙ ap (λ (r : Bool). if r then h else found files other) (not_named h.name other (λ e. differ (sym e)))

-- the selected name is kept otherwise, and the others are not
module _ (a b : MemoryState) (h k : Standing) (old : a.here ≡ Some h) (new : b.here ≡ Some k) (same_name : k.name ≡ h.name)
    (files : b.files ≡ a.files) where
  new_at : (P : Standing → Type 0) → P k → P (standing b.here b.files h.name)
  new_at P p = subst P (sym (subst (λ (n : List ℕ). standing b.here b.files n ≡ k) same_name (at_name b.here b.files k new))) p

  pub elsewhere : (other : List ℕ) → (other ≡ h.name → ⊥) → Stays (disk_of a) (disk_of b) other
  elsewhere other differ = stays_if a b other (off_name b.here b.files k other new (λ e. differ (e ∙ same_name))
      ∙ ap (λ (l : List Standing). found l other) files ∙ sym (off_name a.here a.files h other old differ))

  pub new_kept : (c : Content) → MayLeave (disk_of b) h.name c → (c ≡ k.read) ⊎ Contains k.others c
  new_kept c may = subst (λ (s : Standing). (c ≡ s.read)
      ⊎ Contains s.others c) (subst (λ (n : List ℕ). standing b.here b.files n ≡ k) same_name (at_name b.here b.files k new)) may

  pub from_new : (c : Content) → (c ≡ k.read) ⊎ Contains k.others c → MayLeave (disk_of b) h.name c
  from_new c may = new_at (λ s. (c ≡ s.read) ⊎ Contains s.others c) may

  pub new_read : (disk_of b).read h.name ≡ k.read
  new_read = new_at (λ s. s.read ≡ k.read) refl

  pub old_read : (disk_of a).read h.name ≡ h.read
  old_read = ap (λ (s : Standing). s.read) (at_name a.here a.files h old)

  pub old_kept : (c : Content) → MayLeave (disk_of a) h.name c → (c ≡ h.read) ⊎ Contains h.others c
  old_kept c may = subst (λ (s : Standing). (c ≡ s.read) ⊎ Contains s.others c) (at_name a.here a.files h old) may

  pub from_old : (c : Content) → (c ≡ h.read) ⊎ Contains h.others c → MayLeave (disk_of a) h.name c
  from_old c may = subst (λ (s : Standing). (c ≡ s.read) ⊎ Contains s.others c) (sym (at_name a.here a.files h old)) may

  -- whatever holds of the selected name and of each other
  pub each_name : (P : List ℕ → Type 0) → P h.name → ((other : List ℕ) → (other ≡ h.name → ⊥) → P other) → (name : List ℕ) → P name
  each_name P here others name = by_case (bytes_eq h.name name) refl
    where
      by_case : (r : Bool) → bytes_eq h.name name ≡ r → P name
      by_case true is = subst P ((bytes_eq-Decides h.name name).0 is) here
      by_case false is = others name (λ e. absurd (cc (named h.name name (sym e), is)))

  pub all_keep : ((c : Content) → Leaves h c → Leaves k c) → (name : List ℕ) (c : Content) → MayLeave (disk_of a) name c
      → MayLeave (disk_of b) name c
  all_keep here = each_name (λ name. (c : Content) → MayLeave (disk_of a) name c → MayLeave (disk_of b) name c)
      (λ c may. from_new c (here c (old_kept c may)))
      (λ other differ c may. stays_on (disk_of a) (disk_of b) other (elsewhere other differ) c may)

  pub swaps : NotesOrNot a.log b.log → ((c : Content) → Leaves h c → Leaves k c)
      → ((c : Content) → Leaves k c → Leaves h c ⊎ (c ≡ file (draft_in a.draft).bytes)) → Swaps h.name (disk_of a) (disk_of b)
  swaps log keeps adds = record {
    elsewhere = elsewhere;
    keeps = λ c may. from_new c (keeps c (old_kept c may));
    adds = λ synced c may. ⊎_elim (λ left. inl (from_old c left)) (λ new. inr new) (adds c (new_kept c may));
    adds_files = λ c may. ⊎_elim (λ left. inl (from_old c left)) (λ new. inr (subst IsFile (sym new) tt)) (adds c (new_kept c may));
    time = elapses_noted a b log (all_keep keeps);
  }

-- one more content, before or behind the others
before_others : (x c : Content) (xs : List Content) → Contains (x ∷ xs) c → (c ≡ x) ⊎ Contains xs c
before_others x c xs at = ⊎_elim (λ first.
    ⊎_elim (λ none. absurd (omega (arith, none.1))) (λ e. inl (sym e)) (Contains-push_cases [] x c first)) (λ rest. inr rest)
    (Contains-append_cases (x ∷ []) xs c at)

first_of_more : (x c : Content) (xs : List Content) → c ≡ x → Contains (x ∷ xs) c
first_of_more x c xs e =
    subst (λ (y : Content). Contains (x ∷ xs) y) (sym e) (Contains-append_left (x ∷ []) xs x (Contains-push [] x))

rest_of_more : (x c : Content) (xs : List Content) → Contains xs c → Contains (x ∷ xs) c
rest_of_more x c xs at = Contains-append_right (x ∷ []) xs c at

-- the draft took the name
pub swapped_in : (a b : MemoryState) (h : Standing) → a.here ≡ Some h
    → b.here ≡ Some (record { name = h.name; read = file (draft_in a.draft).bytes; others = h.read ∷ h.others }) → b.files ≡ a.files
    → NotesOrNot a.log b.log
    → Swaps h.name (disk_of a) (disk_of b) × ((disk_of b).read h.name ≡ file (draft_in a.draft).bytes)
swapped_in a b h old new files log =
    let k : Standing = record { name = h.name; read = file (draft_in a.draft).bytes; others = h.read ∷ h.others } in (
      swaps a b h k old new refl files log
          (λ c may. ⊎_elim (λ e. inr (first_of_more h.read c h.others e)) (λ at. inr (rest_of_more h.read c h.others at)) may)
          (λ c may. ⊎_elim (λ e. inr e) (λ at. inl (before_others h.read c h.others at)) may),
      new_read a b h k old new refl files,
    )

-- it did not
pub not_swapped : (a b : MemoryState) (h : Standing) → a.here ≡ Some h → b.here ≡ Some h → b.files ≡ a.files → NotesOrNot a.log b.log
    → Swaps h.name (disk_of a) (disk_of b)
    × (((disk_of b).read h.name ≡ (disk_of a).read h.name) ⊎ ((disk_of b).read h.name ≡ file (draft_in a.draft).bytes))
not_swapped a b h old new files log = (
  swaps a b h h old new refl files log (λ c may. may) (λ c may. inl may),
  inl (new_read a b h h old new refl files ∙ sym (old_read a b h h old new refl files)),
)

-- it may be left too
pub left_beside : (a b : MemoryState) (h : Standing) → a.here ≡ Some h
    → b.here ≡ Some (record { name = h.name; read = h.read; others = h.others ++ file (draft_in a.draft).bytes ∷ [] })
    → b.files ≡ a.files → NotesOrNot a.log b.log
    → Swaps h.name (disk_of a) (disk_of b)
    × (((disk_of b).read h.name ≡ (disk_of a).read h.name) ⊎ ((disk_of b).read h.name ≡ file (draft_in a.draft).bytes))
left_beside a b h old new files log =
    let k : Standing = record { name = h.name; read = h.read; others = h.others ++ file (draft_in a.draft).bytes ∷ [] } in (
      swaps a b h k old new refl files log
          (λ c may. ⊎_elim (λ e. inl e) (λ at. inr (Contains-append_left h.others (file (draft_in a.draft).bytes ∷ []) c at)) may)
          (λ c may. ⊎_elim (λ e. inl (inl e))
          (λ at. ⊎_elim (λ was. inl (inr was)) (λ e. inr (sym e))
          (Contains-push_cases h.others (file (draft_in a.draft).bytes) c at)) may),
      inl (new_read a b h k old new refl files ∙ sym (old_read a b h k old new refl files)),
    )

pub swap_tells : {A E : Type 0} (result : Result A E) (a b : MemoryState)
    → IfSome a.here (λ h. IsSwapped result h (draft_in a.draft) b.here) → b.files ≡ a.files → NotesOrNot a.log b.log
    → IfSome (option_map (λ (h : Standing). h.name) a.here) (λ name. SwapsIn result name (disk_of a) (disk_of b))
swap_tells result a b is files log = by_here a.here refl is
  where
    of_result : {A E : Type 0} (result : Result A E) (h : Standing) → a.here ≡ Some h → IsSwapped result h (draft_in a.draft) b.here
        → SwapsIn result h.name (disk_of a) (disk_of b)
    of_result (Ok x) h old new = swapped_in a b h old new files log
    of_result (Err e) h old (inl new) = not_swapped a b h old new files log
    of_result (Err e) h old (inr new) = left_beside a b h old new files log

    by_here : (here : Option Standing) → a.here ≡ here → IfSome here (λ h. IsSwapped result h (draft_in a.draft) b.here)
        → IfSome (option_map (λ (h : Standing). h.name) here) (λ name. SwapsIn result name (disk_of a) (disk_of b))
    by_here None old new = tt
    by_here (Some h) old new = of_result result h old new

-- all went but what a read gives
pub let_go : (a b : MemoryState) (h : Standing) → a.here ≡ Some h
    → b.here ≡ Some (record { name = h.name; read = h.read; others = [] }) → b.files ≡ a.files
    → b.log ≡ a.log ++ Some (record { name = h.name; gone = h.others }) ∷ []
    → Settles h.name (disk_of a) (disk_of b) × ((c : Content) → MayLeave (disk_of b) h.name c → c ≡ (disk_of b).read h.name)
let_go a b h old new files log =
    let k : Standing = record { name = h.name; read = h.read; others = [] } in
    let past : Past = record { name = h.name; gone = h.others } in
    let entry : List (Option Past) = Some past ∷ [] in
    let here : gone_in entry h.name ≡ h.others = ap (λ (r : Bool). if r then h.others ++ [] else []) (named h.name h.name refl)
    ∙ append-nil h.others in
    let off : (other : List ℕ) → (other ≡ h.name → ⊥)
    → gone_in entry other ≡ [] = λ other differ. ap (λ (r : Bool). if r then h.others
    ++ [] else []) (not_named h.name other (λ e. differ (sym e))) in
    let could : (name : List ℕ) (c : Content) → Contains (gone_in entry name) c
    → MayLeave (disk_of a) name c =
    each_name a b h k old new refl files (λ name. (c : Content) → Contains (gone_in entry name) c
    → MayLeave (disk_of a) name c)
    (λ c gone. from_old a b h k old new refl files c (inr (subst (λ (l : List Content). Contains l c) here gone)))
    (λ other differ c gone. absurd (none c (subst (λ (l : List Content). Contains l c) (off other differ) gone))) in
    let stays : (name : List ℕ) (c : Content) → MayLeave (disk_of a) name c
    → MayLeave (disk_of b) name c ⊎ Contains (gone_in entry name) c =
    each_name a b h k old new refl files (λ name. (c : Content) → MayLeave (disk_of a) name c
    → MayLeave (disk_of b) name c ⊎ Contains (gone_in entry name) c)
    (λ c may. ⊎_elim (λ e. inl (from_new a b h k old new refl files c (inl e)))
    (λ at. inr (subst (λ (l : List Content). Contains l c) (sym here) at)) (old_kept a b h k old new refl files c may))
    (λ other differ c may. inl (stays_on (disk_of a) (disk_of b) other
    (elsewhere a b h k old new refl files other differ) c may)) in (
      record {
        elsewhere = elsewhere a b h k old new refl files;
        read = new_read a b h k old new refl files ∙ sym (old_read a b h k old new refl files);
        time = elapses_push a b (Some past) log could stays;
      },
      λ c may. ⊎_elim (λ e. e ∙ sym (new_read a b h k old new refl files)) (λ at. absurd (none c at))
          (new_kept a b h k old new refl files c may),
    )
  where
    none : (c : Content) → Contains {X = Content} [] c → ⊥
    none c at = omega (arith, at.1)

-- nothing went
pub kept_all : (a b : MemoryState) (h : Standing) → a.here ≡ Some h → b.here ≡ Some h → b.files ≡ a.files → NotesOrNot a.log b.log
    → Settles h.name (disk_of a) (disk_of b) × ((disk_of b).others h.name ≡ (disk_of a).others h.name)
kept_all a b h old new files log =
    let same : (name : List ℕ) → standing b.here b.files name ≡ standing a.here a.files name =
    λ name i. standing ((new ∙ sym old) i) (files i) name in
    let quiet = quiet_if a b same log in (
      record { elsewhere = λ other differ. quiet.stays other; read = (quiet.stays h.name).read; time = quiet.time },
      (quiet.stays h.name).others,
    )

pub settle_tells : {A E : Type 0} (result : Result A E) (a b : MemoryState)
    → IfSome a.here (λ h. IsSettled result h a.log b.here b.log) → b.files ≡ a.files
    → IfSome (option_map (λ (h : Standing). h.name) a.here) (λ name. SettlesAt result name (disk_of a) (disk_of b))
settle_tells result a b is files = by_here a.here refl is
  where
    of_result : {A E : Type 0} (result : Result A E) (h : Standing) → a.here ≡ Some h → IsSettled result h a.log b.here b.log
        → SettlesAt result h.name (disk_of a) (disk_of b)
    of_result (Ok x) h old new = let_go a b h old new.0 files new.1
    of_result (Err e) h old new = kept_all a b h old new.0 files new.1

    by_here : (here : Option Standing) → a.here ≡ here → IfSome here (λ h. IsSettled result h a.log b.here b.log)
        → IfSome (option_map (λ (h : Standing). h.name) here) (λ name. SettlesAt result name (disk_of a) (disk_of b))
    by_here None old new = tt
    by_here (Some h) old new = of_result result h old new
