-- What comes of a save of a session.
use Rattle.std.specs.Prelude.{◌≡◌, ℕ, ◌+◌, ◌<◌, ◌≤◌, false, List, [], ◌∷◌, ◌++◌, length, Option, None, IfSome, ◌⊎◌}
use mathlib.Core.List.{IsPrefix}
use Rattle.spec_history.specs.declared.TheConstants.{MAX_ENTRIES}
use Rattle.spec_history.specs.Machine as machine
use Rattle.spec_history.specs.Machine.{Reply}
use Rattle.spec_history.specs.History.{Entry, latest_of}
use Rattle.spec_saves.specs.Returns.{Returns}
use Rattle.spec_saves.specs.Shelf.{ShelfIsRight}
use Rattle.spec_world.specs.declared.SaveEnd.{SaveEnd}
use Rattle.spec_world.specs.declared.SaveEnd.TheVariants.{Done}
use Rattle.spec_world.specs.Events.{end_reply}
use Rattle.xl_core.specs.Editing.{start_of}
use Rattle.xl_ports.specs.State.{ShelfState}
use Rattle.xl_studio.specs.Moments.{AreAsked}
use Rattle.xl_studio.specs.Saving.{end_behind}
use Rattle.xcf_sessions.specs.Seen.{Seen, GoesOn, HasHeard}

-- The save began after some history that begins with what the session had seen, and ended with the version that stood there; in between
-- there were calls of others alone. Its start and its end are entries, and the two that the session made. The shelf was handed out as it
-- is right after that history, and came back as `Returns` says: at each moment a crash left one of the `files` of the history that ends
-- with the start, and after a save that is done that of the version alone.
pub record IsMade {K : Type 0} (see : K → ShelfState) (reply : Reply) (old new : Seen K) : Type 0 where
  pub goes_on : GoesOn old new
  pub before : List Entry
  pub between : List Entry
  pub how : SaveEnd
  pub handed : K
  pub back : K
  pub begins : IsPrefix old.entries before
  pub calls : AreAsked between
  pub right : ShelfIsRight (see old.shelf) old.base before (see handed)
  pub returns : Returns (see old.shelf) (see handed) old.base
      (before ++ start_of (record { base = old.base; entries = before }) old.session ∷ []) how (see back)
  pub closed : how ≡ Done → (see back).is_open ≡ false
  pub reply_is : reply ≡ end_reply how (latest_of before)
  pub entries : new.entries ≡ before ++ start_of (record { base = old.base; entries = before }) old.session ∷ [] ++ between
      ++ end_behind before old.session reply ∷ []
  pub made : new.made ≡ old.made ++ length before ∷ [] ++ (length before + 1 + length between) ∷ []

-- The history had no room for two entries, and there is none of the save.
pub record FindsNoRoom {K : Type 0} (reply : Reply) (old new : Seen K) : Type 0 where
  pub reply_is : reply ≡ machine.history_full
  pub heard : HasHeard old new
  pub few : MAX_ENTRIES < length new.entries + 2

-- a save, with the reply that its result stands for; where that stands for none no save began
pub record IsSaveTold {K : Type 0} (see : K → ShelfState) (reply : Option Reply) (old new : Seen K) : Type 0 where
  pub saved : IfSome reply (λ reply. FindsNoRoom reply old new ⊎ IsMade see reply old new)
  pub heard : reply ≡ None → HasHeard old new
