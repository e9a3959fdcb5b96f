-- What a session knows of the image.
use Rattle.std.specs.Prelude.{◌≡◌, ℕ, List, []}
use mathlib.Core.List.{IsPrefix}
use Rattle.spec_document.specs.Document.{Document}
use Rattle.spec_history.specs.History.{Entry}
use Rattle.spec_history.specs.Kept.{IsLegal}
use Rattle.xl_core.specs.History.{History}

-- The session's number, the image as it was opened, its history up to the last call of the session, the places there, from 0, of the
-- entries that the session has made, and the shelf as it was opened.
pub record Seen (K : Type 0) : Type 0 where
  pub session : ℕ
  pub base : Document
  pub entries : List Entry
  pub made : List ℕ
  pub shelf : K

-- the first session, before any call
abbrev pub first_seen : {K : Type 0} → Document → K → Seen K
first_seen document shelf = record { session = 0; base = document; entries = []; made = []; shelf = shelf }

abbrev pub history_of : {K : Type 0} → Seen K → History
history_of seen = record { base = seen.base; entries = seen.entries }

-- it is the same session, of the same image, and the history that it knows is legal
pub record GoesOn {K : Type 0} (old new : Seen K) : Type 0 where
  pub session : new.session ≡ old.session
  pub base : new.base ≡ old.base
  pub shelf : new.shelf ≡ old.shelf
  pub legal : IsLegal new.base new.entries

-- the session made no entry; it may have heard what others made
pub record HasHeard {K : Type 0} (old new : Seen K) : Type 0 where
  pub goes_on : GoesOn old new
  pub begins : IsPrefix old.entries new.entries
  pub made : new.made ≡ old.made
