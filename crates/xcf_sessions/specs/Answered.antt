-- What comes of a call of a session.
use Rattle.std.specs.Prelude.{◌≡◌, ℕ, List, [], ◌∷◌, ◌++◌, length, Option, None, IfOk, IfSome, MatchBool, Result}
use mathlib.Core.List.{IsPrefix}
use Rattle.spec_document.specs.declared.TileAt.{TileAt}
use Rattle.spec_document.specs.Grid.{tile_rect}
use Rattle.spec_document.specs.Picture.{project}
use Rattle.spec_history.specs.Machine as machine
use Rattle.spec_history.specs.Machine.{Call, Reply}
use Rattle.spec_history.specs.History.{Entry, Answers, asked, next_index, replay, latest_of, document_of}
use Rattle.spec_history.specs.Kept.{IsFreshReply}
use Rattle.xl_core.specs.History.{is_full}
use Rattle.xcf.specs.Plain.{IsPlainGroup}
use Rattle.xcf.specs.declared.errors.NotShown.{NotShown}
use Rattle.xcf_sessions.specs.declared.shown.Shown.{Shown}
use Rattle.xcf_sessions.specs.Seen.{Seen, GoesOn, HasHeard}

-- a group of plain edits, or any other call
abbrev pub IsFilterless : Call → Type 0
IsFilterless (machine.edit guard edits) = IsPlainGroup edits
IsFilterless (machine.undo named) = Unit {0}
IsFilterless machine.redo = Unit {0}
IsFilterless (machine.tile stack at) = Unit {0}
IsFilterless (machine.peek stack at) = Unit {0}
IsFilterless machine.top = Unit {0}

-- it asks for the picture of this tile
abbrev pub IsTileCall : Call → TileAt → Type 0
IsTileCall (machine.tile stack place) at = place ≡ at
IsTileCall (machine.peek stack place) at = place ≡ at
IsTileCall (machine.edit guard edits) at = ⊥
IsTileCall (machine.undo named) at = ⊥
IsTileCall machine.redo at = ⊥
IsTileCall machine.top at = ⊥

-- The call was answered after some history that begins with what the session had seen: what the others asked in between comes first.
-- It is answered as the machine may answer it there, and is the next entry, with its reply, and the one that the session made; a full
-- history stays as it is, and none was made. A tile is of no older version than the session had seen.
pub record IsAnswered {K : Type 0} (call : Call) (reply : Reply) (old new : Seen K) : Type 0 where
  pub goes_on : GoesOn old new
  pub before : List Entry
  pub begins : IsPrefix old.entries before
  pub is : MatchBool (is_full (record { base = old.base; entries = before }))
      ((reply ≡ machine.history_full) × (new.entries ≡ before) × (new.made ≡ old.made))
      (Answers old.base (replay old.base before) call [] reply × (new.entries
      ≡ before ++ record { session = old.session; index = next_index before old.session; kind = asked call []; reply = reply } ∷ [])
      × (new.made ≡ old.made ++ length before ∷ []))
  pub fresh : IsFreshReply (latest_of old.entries) reply

-- the result stands for such an answer; where it stands for none the session made no entry
pub record IsTold {K : Type 0} (call : Call) (reply : Option Reply) (old new : Seen K) : Type 0 where
  pub answered : IfSome reply (λ reply. IsAnswered call reply old new)
  pub heard : reply ≡ None → HasHeard old new

-- the picture is that of the tile at the version that is named, and has its sides
pub record IsShown {K : Type 0} (seen : Seen K) (stack : ℕ) (at : TileAt) (shown : Shown) : Type 0 where
  pub picture : shown.picture ≡ project (document_of seen.base seen.entries shown.version) stack at
  pub width : shown.width ≡ (tile_rect seen.base.width seen.base.height at).w
  pub height : shown.height ≡ (tile_rect seen.base.width seen.base.height at).h

abbrev pub ShowsVersion : {K : Type 0} → Seen K → (stack : ℕ) → TileAt → Result Shown NotShown → Type 0
ShowsVersion seen stack at result = IfOk result (IsShown seen stack at)

-- the same of the call that asks for it
abbrev pub ShowsIn : {K : Type 0} → Seen K → Call → Result Shown NotShown → Type 0
ShowsIn seen (machine.tile stack at) result = ShowsVersion seen stack at result
ShowsIn seen (machine.peek stack at) result = ShowsVersion seen stack at result
ShowsIn seen (machine.edit guard edits) result = Unit {0}
ShowsIn seen (machine.undo named) result = Unit {0}
ShowsIn seen machine.redo result = Unit {0}
ShowsIn seen machine.top result = Unit {0}
