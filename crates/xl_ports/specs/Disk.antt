-- What a shelf holds under each name, now and after a crash, where that is known, and how its calls change it.
--
-- A draft is written beside a file, synced, and then takes the file's name; settling makes that last. A crash at a moment
-- leaves one content under each name. What a read gives is always one of those that a crash may leave: it stands apart
-- from the others.
use Rattle.std.specs.Prelude.{◌≡◌, ◌⊎◌, ℕ, ◌+◌, ◌≤◌, List, [], Bool, true, false, Option, Some, None, option_map}
use Rattle.std.specs.Prelude.{Result, Ok, Err, Contains}
use Rattle.xl_ports.specs.Shelf.{Content, file, IsFile}

-- the bytes of a draft, and whether they were synced since they were written
pub record Draft : Type 0 where
  pub bytes : List ℕ
  pub is_synced : Bool

-- nothing was written yet
abbrev pub empty_draft : Draft
empty_draft = record { bytes = []; is_synced = false }

-- all that can be known
pub record Disk : Type 0 where
  -- what a read of a name gives
  pub read : (name : List ℕ) → Content
  -- what else a crash now may leave under it
  pub others : (name : List ℕ) → List Content
  -- what else a crash at some moment since that one might have left under it
  pub gone : (name : List ℕ) → (since : ℕ) → List Content
  -- the clock
  pub moment : ℕ
  -- the draft, where one is open
  pub draft : Draft
  -- since now there was no other moment
  pub none_gone : (name : List ℕ) → gone name moment ≡ []
  -- what a crash since a later moment might have left, one since this moment might have left too
  pub gone_earlier : (name : List ℕ) (since more : ℕ) (c : Content) → Contains (gone name (since + more)) c
      → Contains (gone name since) c

-- a crash now may leave this
abbrev pub MayLeave : Disk → (name : List ℕ) → Content → Type 0
MayLeave disk name c = (c ≡ disk.read name) ⊎ Contains (disk.others name) c

-- a crash at some moment since that one might have left this
abbrev pub MightHaveLeft : Disk → (name : List ℕ) → (since : ℕ) → Content → Type 0
MightHaveLeft disk name since c = MayLeave disk name c ⊎ Contains (disk.gone name since) c

-- a crash now leaves this and nothing else
abbrev pub LeavesJust : Disk → (name : List ℕ) → Content → Type 0
LeavesJust disk name content = (c : Content) → MayLeave disk name c → c ≡ content

-- both are known or neither, and where they are, this holds of them
abbrev pub Between : (before after : Option Disk) → (Disk → Disk → Type 0) → Type 0
Between None None R = Unit {0}
Between (Some before) (Some after) R = R before after
Between before after R = ⊥

-- A call took place: at each moment within it a crash leaves what it might have left before or may leave after it, and
-- what might have been left stays so. The clock does not go back.
pub record Elapses (before after : Disk) : Type 0 where
  pub later : before.moment ≤ after.moment
  pub nothing_else : (name : List ℕ) (since : ℕ) (c : Content) → since ≤ before.moment → MightHaveLeft after name since c
      → MightHaveLeft before name since c ⊎ MayLeave after name c
  pub keeps : (name : List ℕ) (since : ℕ) (c : Content) → since ≤ before.moment → MightHaveLeft before name since c
      → MightHaveLeft after name since c

-- under this name a read and a crash give what they gave
pub record Stays (before after : Disk) (name : List ℕ) : Type 0 where
  pub read : after.read name ≡ before.read name
  pub others : after.others name ≡ before.others name

-- nothing but time went on, under any name
pub record IsQuiet (before after : Disk) : Type 0 where
  pub stays : (name : List ℕ) → Stays before after name
  pub time : Elapses before after

-- the draft is what it was
abbrev pub KeepsDraft : (before after : Disk) → Type 0
KeepsDraft before after = after.draft ≡ before.draft

-- under this name a read and a crash give what they gave, and at each moment a crash left what it might have left before
pub record StaysThrough (before after : Disk) (name : List ℕ) : Type 0 where
  pub later : before.moment ≤ after.moment
  pub stays : Stays before after name
  pub nothing_new : (since : ℕ) (c : Content) → since ≤ before.moment → MightHaveLeft after name since c
      → MightHaveLeft before name since c
  pub keeps : (since : ℕ) (c : Content) → since ≤ before.moment → MightHaveLeft before name since c
      → MightHaveLeft after name since c

-- so it is under each other name
abbrev pub OthersStay : (name : List ℕ) → (before after : Disk) → Type 0
OthersStay name before after = (other : List ℕ) → (other ≡ name → ⊥) → StaysThrough before after other

-- The draft joins what a crash may leave under this name, or does not. Of a draft that was not synced a file of any bytes
-- may be left.
pub record Swaps (name : List ℕ) (before after : Disk) : Type 0 where
  pub elsewhere : (other : List ℕ) → (other ≡ name → ⊥) → Stays before after other
  pub keeps : (c : Content) → MayLeave before name c → MayLeave after name c
  pub adds : before.draft.is_synced ≡ true → (c : Content) → MayLeave after name c
      → MayLeave before name c ⊎ (c ≡ file before.draft.bytes)
  pub adds_files : (c : Content) → MayLeave after name c → MayLeave before name c ⊎ IsFile c
  pub time : Elapses before after

-- a read gives the draft afterwards; after a failure the draft or what it gave before
abbrev pub SwapsIn : {A E : Type 0} → Result A E → (name : List ℕ) → (before after : Disk) → Type 0
SwapsIn (Ok x) name before after = Swaps name before after × (after.read name ≡ file before.draft.bytes)
SwapsIn (Err e) name before after =
    Swaps name before after × ((after.read name ≡ before.read name) ⊎ (after.read name ≡ file before.draft.bytes))

-- a read gives what it gave, under each name
pub record Settles (name : List ℕ) (before after : Disk) : Type 0 where
  pub elsewhere : (other : List ℕ) → (other ≡ name → ⊥) → Stays before after other
  pub read : after.read name ≡ before.read name
  pub time : Elapses before after

-- a crash leaves what a read gives and nothing else; after a failure what it left before
abbrev pub SettlesAt : {A E : Type 0} → Result A E → (name : List ℕ) → (before after : Disk) → Type 0
SettlesAt (Ok x) name before after = Settles name before after × LeavesJust after name (after.read name)
SettlesAt (Err e) name before after = Settles name before after × (after.others name ≡ before.others name)

-- what a read of a name gives, where it is known
abbrev pub read_at : Option Disk → (name : List ℕ) → Option Content
read_at disk name = option_map (λ d. d.read name) disk
