-- What a shelf in memory keeps, and what is known of it.
use Rattle.std.specs.Prelude.{◌≡◌, Bool, true, false, ◌⊎◌, option_map, refl, ℕ, ◌+◌, Contains, IfSome, List, [], ◌∷◌}
use Rattle.std.specs.Prelude.{◌++◌, length, drop, map, Option, Some, None, if◌then◌else◌, Vec, String, string_bytes}
use Rattle.std.specs.Prelude.{Result, Ok, Err, IsErr, is_err, OnErr, OnOk}
use Rattle.std.specs.declared.alloc.Global.{Global}
use Rattle.std.specs.Str.{bytes_eq}
use Rattle.std.proofs.Common.{zero, suc, sym, subst}
use Rattle.std.proofs.lemmas.List.{drop-drop}
use Rattle.std.proofs.lemmas.List.Elements.{Contains-append_right}
use Rattle.xl_ports.specs.Shelf.{Content, absent, file}
use Rattle.xl_ports.specs.Disk.{Disk, Draft, empty_draft}
use Rattle.xl_ports.specs.Faults.{HasCause, Rose}
use Rattle.xl_fakes.specs.Fakes.{CountsStarved}
use Rattle.xl_fakes.specs.Calls.{ShelfCalls, NextCallFails, with_reading, with_saving}

-- a name, what a read of it gives, and what else a crash now may leave
pub record Standing : Type 0 where
  pub name : List ℕ
  pub read : Content
  pub others : List Content

-- a name that was settled, and what a crash could leave until then and can no more
pub record Past : Type 0 where
  pub name : List ℕ
  pub gone : List Content

-- A shelf in memory: what it keeps under the selected name and under the others, the draft, a record of all calls, which
-- has an entry where a name was settled, how often it found no memory, how often it was asked for bytes, and the calls.
pub record MemoryState : Type 0 where
  pub here : Option Standing
  pub files : List Standing
  pub draft : Option Draft
  pub log : List (Option Past)
  pub starved : ℕ
  pub loads : ℕ
  pub calls : ShelfCalls

-- no file, or a file of these bytes
abbrev pub content_of : Option (List ℕ) → Content
content_of None = absent
content_of (Some bytes) = file bytes

-- the same of bytes in memory
abbrev pub kept_content : Option (Vec ℕ Global) → Content
kept_content None = absent
kept_content (Some v) = file v.items

abbrev pub contents : List (Option (Vec ℕ Global)) → List Content
contents kept = map kept_content kept

-- the first of what a crash may leave is what a read gives
abbrev pub first_of : List Content → Content
first_of [] = absent
first_of (c ∷ cs) = c

-- what is kept under a name, if nothing but that there is no file
abbrev pub found : List Standing → (name : List ℕ) → Standing
found [] name = record { name = name; read = absent; others = [] }
found (f ∷ fs) name = if bytes_eq f.name name then f else found fs name

-- whether a name was handed in or selected
abbrev pub is_known : List Standing → (name : List ℕ) → Bool
is_known [] name = false
is_known (f ∷ fs) name = if bytes_eq f.name name then true else is_known fs name

-- the same where one is selected
abbrev pub is_known_at : Option Standing → List Standing → (name : List ℕ) → Bool
is_known_at None files name = is_known files name
is_known_at (Some here) files name = if bytes_eq here.name name then true else is_known files name

-- the names that are known are those of before and, where the selection went well, the selected one
abbrev pub KnowsToo : {A E : Type 0} → Result A E → (name : List ℕ) → (here : Option Standing) → (files : List Standing)
    → (new_here : Option Standing) → (new_files : List Standing) → Type 0
KnowsToo (Ok x) name here files new_here new_files =
    (other : List ℕ) → is_known_at new_here new_files other ≡ (if bytes_eq name other then true else is_known_at here files other)
KnowsToo (Err e) name here files new_here new_files =
    (other : List ℕ) → is_known_at new_here new_files other ≡ is_known_at here files other

-- what is kept under a name where one is selected
abbrev pub standing : Option Standing → List Standing → (name : List ℕ) → Standing
standing None files name = found files name
standing (Some here) files name = if bytes_eq here.name name then here else found files name

-- what a crash could leave under a name until it was settled in one of these calls
abbrev pub gone_in : List (Option Past) → (name : List ℕ) → List Content
gone_in [] name = []
gone_in (None ∷ log) name = gone_in log name
gone_in (Some past ∷ log) name = if bytes_eq past.name name then past.gone ++ gone_in log name else gone_in log name

-- behind the last call there is none
pub none_gone_in : (log : List (Option Past)) (name : List ℕ) → gone_in (drop (length log) log) name ≡ []
none_gone_in [] name = refl
none_gone_in (entry ∷ log) name = none_gone_in log name

-- what went in these calls, or before them
with_past : (here : Bool) (gone rest : List Content) (c : Content) → Contains rest c
    → Contains (if here then gone ++ rest else rest) c
with_past true gone rest c at = Contains-append_right gone rest c at
with_past false gone rest c at = at

-- what went in the last calls went in all of them
pub gone_later : (log : List (Option Past)) (name : List ℕ) (more : ℕ) (c : Content) → Contains (gone_in (drop more log) name) c
    → Contains (gone_in log name) c
gone_later log name zero c at = at
gone_later [] name (suc more) c at = at
gone_later (None ∷ log) name (suc more) c at = gone_later log name more c at
gone_later (Some past ∷ log) name (suc more) c at =
    with_past (bytes_eq past.name name) past.gone (gone_in log name) c (gone_later log name more c at)

pub gone_earlier_in : (log : List (Option Past)) (name : List ℕ) (since more : ℕ) (c : Content)
    → Contains (gone_in (drop (since + more) log) name) c → Contains (gone_in (drop since log) name) c
gone_earlier_in log name since more c at =
    gone_later (drop since log) name more c
    (subst (λ (l : List (Option Past)). Contains (gone_in l name) c) (sym (drop-drop more since log)) at)

-- the open draft
abbrev pub draft_in : Option Draft → Draft
draft_in None = empty_draft
draft_in (Some draft) = draft

-- what is known of the shelf
abbrev pub disk_of : MemoryState → Disk
disk_of s = record {
  read = λ name. (standing s.here s.files name).read;
  others = λ name. (standing s.here s.files name).others;
  gone = λ name since. gone_in (drop since s.log) name;
  moment = length s.log;
  draft = draft_in s.draft;
  none_gone = λ name. none_gone_in s.log name;
  gone_earlier = λ name since more c gone. gone_earlier_in s.log name since more c gone;
}

-- a file that was handed in
abbrev pub handed_in : String Global × Vec ℕ Global → Standing
handed_in f = record { name = string_bytes f.0; read = file f.1.items; others = [] }

-- a call was recorded that let nothing go
abbrev pub Notes : (old new : List (Option Past)) → Type 0
Notes old new = new ≡ old ++ None ∷ []

-- it was, or there was no memory for that
abbrev pub NotesOrNot : (old new : List (Option Past)) → Type 0
NotesOrNot old new = Notes old new ⊎ (new ≡ old)

-- what the selected name stands for
abbrev pub shown : MemoryState → Option Content
shown s = option_map (λ h. h.read) s.here

-- the names that are known are those of before
abbrev pub KnowsSame : (old new : MemoryState) → Type 0
KnowsSame old new = (other : List ℕ) → is_known_at new.here new.files other ≡ is_known_at old.here old.files other

-- what is kept under each name stays
pub record KeepsFiles (old new : MemoryState) : Type 0 where
  pub here : new.here ≡ old.here
  pub files : new.files ≡ old.files
  pub log : NotesOrNot old.log new.log

-- A call that saves failed just where it was to fail, or where it found no memory inside, which it counted. Where the calls before
-- it are spared, it counted none.
pub record EndsSaving {A E : Type 0} (Spares : ShelfCalls → Type 0) (result : Result A E) (old new : MemoryState) : Type 0 where
  pub fails : NextCallFails old.calls → IsErr result
  pub starved : OnErr result (NextCallFails old.calls ⊎ Rose old.starved new.starved)
  pub not_starved : OnOk result (new.starved ≡ old.starved)
  pub spared : Spares old.calls → new.starved ≡ old.starved
  pub counted : CountsStarved old.starved new.starved
  pub calls : new.calls ≡ with_saving (is_err result) old.calls
  pub cause : HasCause old.calls.saving new.calls.saving result

-- the same of a call that reads, which may fail for a further reason, and is spared where it was to fail
pub record EndsReading {A E : Type 0} (reason : Type 0) (result : Result A E) (old new : MemoryState) : Type 0 where
  pub fails : NextCallFails old.calls → IsErr result
  pub starved : OnErr result (NextCallFails old.calls ⊎ reason ⊎ Rose old.starved new.starved)
  pub not_starved : OnOk result (new.starved ≡ old.starved)
  pub spared : NextCallFails old.calls → new.starved ≡ old.starved
  pub counted : CountsStarved old.starved new.starved
  pub calls : new.calls ≡ with_reading (is_err result) old.calls
  pub cause : HasCause old.calls.reading new.calls.reading result

-- the draft may be left too, but a read gives what it gave
abbrev pub MayBeLeft : (old : Standing) → (draft : Draft) → (new : Option Standing) → Type 0
MayBeLeft old draft new = new ≡ Some (record { name = old.name; read = old.read; others = old.others ++ file draft.bytes ∷ [] })

-- the draft took the name; or, after a failure, it did not, or it may be left too though a read gives what it gave
abbrev pub IsSwapped : {A E : Type 0} → Result A E → (old : Standing) → (draft : Draft) → (new : Option Standing) → Type 0
IsSwapped (Ok x) old draft new = new ≡ Some (record { name = old.name; read = file draft.bytes; others = old.read ∷ old.others })
IsSwapped (Err e) old draft new = (new ≡ Some old) ⊎ MayBeLeft old draft new

-- the draft may be left too; or there was no memory for that, and what is kept stays
abbrev pub LeavesBoth : (old new : MemoryState) → Type 0
LeavesBoth old new = (IfSome old.here (λ h. MayBeLeft h (draft_in old.draft) new.here) × (new.starved ≡ old.starved))
    ⊎ ((new.here ≡ old.here) × Rose old.starved new.starved)

-- nothing but what a read gives may be left, and the rest went in this call; or, after a failure, all is as before
abbrev pub IsSettled : {A E : Type 0} → Result A E → (old : Standing) → (log : List (Option Past)) → (new : Option Standing)
    → (new_log : List (Option Past)) → Type 0
IsSettled (Ok x) old log new new_log = (new ≡ Some (record { name = old.name; read = old.read; others = [] }))
    × (new_log ≡ log ++ Some (record { name = old.name; gone = old.others }) ∷ [])
IsSettled (Err e) old log new new_log = (new ≡ Some old) × NotesOrNot log new_log

-- what each name stands for
abbrev pub known_content : MemoryState → (name : List ℕ) → Option Content
known_content s name = Some (standing s.here s.files name).read
