-- What a save makes, in two holds of the turn, and what its seat knows then.
use Rattle.std.specs.Prelude.{◌≡◌, ◌⊎◌, ℕ, ◌+◌, ◌<◌, ◌≤◌, false, List, [], ◌∷◌, ◌++◌, length, Some, None}
use mathlib.Core.List.{IsPrefix}
use Rattle.spec_document.specs.Document.{Document}
use Rattle.spec_history.specs.declared.TheConstants.{MAX_ENTRIES}
use Rattle.spec_history.specs.Machine as machine
use Rattle.spec_history.specs.Machine.{Reply}
use Rattle.spec_history.specs.History.{Entry, ends, next_index, latest_of}
use Rattle.spec_world.specs.declared.SaveEnd.{SaveEnd}
use Rattle.spec_world.specs.declared.SaveEnd.TheVariants.{Done}
use Rattle.spec_world.specs.Events.{end_reply}
use Rattle.spec_saves.specs.Shelf.{ShelfIsRight}
use Rattle.xl_ports.specs.State.{ShelfState}
use Rattle.spec_saves.specs.Returns.{Returns}
use Rattle.xl_history.specs.History.{document}
use Rattle.xl_history.specs.Editing.{start_of, out_of}
use Rattle.xl_snapshot.specs.Saving.{IsCodedOn}
use Rattle.xl_studio.specs.declared.moment.Moment.{Moment}
use Rattle.xl_studio.specs.declared.moment.Moment.TheVariants.{Made}
use Rattle.xl_studio.specs.Moments.{AreAsked, entries_in}
use Rattle.xl_studio.specs.Calling.{Known}
use Rattle.xl_studio.specs.Seats.{history_of}

-- the end of the save that was started right behind these entries
abbrev pub end_behind : (earlier : List Entry) → (session : ℕ) → Reply → Entry
end_behind earlier session reply = record { session = session; index = next_index earlier session; kind = ends; reply = reply }

-- The history had no room for two entries, and no save was out. The seat made none, and knows that history.
pub record FoundNoRoom {K : Type 0} (base : Document) (reply : Reply) (old new : Known K) : Type 0 where
  pub reply_is : reply ≡ machine.history_full
  pub begins : IsPrefix old.front new.front
  pub made : new.made ≡ old.made
  pub few : MAX_ENTRIES < length (entries_in new.front) + 2
  pub none_out : out_of (history_of base new.front) ≡ None

-- The save started after some history that begins with what the seat knew and has room for two entries, and the shelf was
-- handed out, as it is right after that history. Until its end there were calls alone. The end names the version of the
-- start, and is the last entry that the seat knows. The seat made just these two.
--
-- The shelf came back as `Returns` says: at each moment since it was handed out a crash left one of the `files` of
-- the history that ends with the start. Where the save is done, a crash leaves its version alone. It ended by a fault
-- only where the count of saving faults rose since it was handed out. Where memory ran out for the file it is as it was
-- handed out. Where the save is done no draft is open.
pub record IsWhole {K : Type 0} (see : K
    → ShelfState) (opening : K) (base : Document) (session : ℕ) (reply : Reply) (old new : Known K) : Type 0 where
  pub entered : List (Moment K)
  pub shelf : K
  pub between : List (Moment K)
  pub how : SaveEnd
  pub back : K
  pub begins : IsPrefix old.front entered
  pub room : length (entries_in entered) + 2 ≤ MAX_ENTRIES
  pub calls : AreAsked (entries_in between)
  pub right : ShelfIsRight (see opening) base (entries_in entered) (see shelf)
  pub returns : Returns (see opening) (see shelf) base (entries_in entered
      ++ start_of (history_of base entered) session ∷ []) how (see back)
  pub closed : how ≡ Done → (see back).is_open ≡ false
  pub reply_is : reply ≡ end_reply how (latest_of (entries_in entered))
  pub front : new.front ≡ entered ++ Made (start_of (history_of base entered) session) (Some shelf) ∷ [] ++ between
      ++ Made (end_behind (entries_in entered) session reply) None ∷ []
  pub made : new.made ≡ old.made ++ length (entries_in entered) ∷ []
      ++ (length (entries_in entered) + 1 + length (entries_in between)) ∷ []

-- a save of a session, with this reply
pub record IsSaved {K : Type 0} (see : K
    → ShelfState) (opening : K) (base : Document) (session : ℕ) (reply : Reply) (old new : Known K) : Type 0 where
  pub is : FoundNoRoom base reply old new ⊎ IsWhole see opening base session reply old new

-- Such a save, whose file is that of the version of its start as this coder codes it.
pub record IsWholeBy {K : Type 0} (fits : List ℕ → List ℕ → Type 0) (see : K
    → ShelfState) (opening : K) (base : Document) (session : ℕ) (reply : Reply) (old new : Known K) : Type 0 where
  pub whole : IsWhole see opening base session reply old new
  pub coded : IsCodedOn fits (see whole.shelf) (document (history_of base whole.entered)) whole.how (see whole.back)

-- a save of a session with this coder
pub record IsSavedBy {K : Type 0} (fits : List ℕ → List ℕ → Type 0) (see : K
    → ShelfState) (opening : K) (base : Document) (session : ℕ) (reply : Reply) (old new : Known K) : Type 0 where
  pub is : FoundNoRoom base reply old new ⊎ IsWholeBy fits see opening base session reply old new
