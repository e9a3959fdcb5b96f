-- Sessions that fill layers of their own: each layer has an owner, and a session fills only the layers that it owns.
use Rattle.std.specs.Prelude.{◌≡◌, ℕ, suc, List, [], ◌∷◌, ◌++◌, Option, None}
use Rattle.std.specs.List.{AllByRecursion}
use Rattle.spec_document.specs.declared.Rect.{Rect}
use Rattle.spec_edit.specs.Edit.{Edit, fill}
use Rattle.spec_history.specs.Machine.{Call, edit, undo, redo, tile, peek, top}
use Rattle.spec_script.specs.Script.{Line, call, save, forget}

-- one fill, without a guard, of a layer that the session owns
pub record IsOwnFill (owner : ℕ → ℕ) (session : ℕ) (guard : Option ℕ) (edits : List Edit) : Type 0 where
  pub id : ℕ
  pub rect : Rect
  pub pixel : List ℕ
  pub unguarded : guard ≡ None
  pub alone : edits ≡ fill id rect pixel ∷ []
  pub own : owner id ≡ session

-- such a fill, or a call that changes nothing
abbrev pub IsOwnCall : (owner : ℕ → ℕ) → (session : ℕ) → Call → Type 0
IsOwnCall owner session (edit guard edits) = IsOwnFill owner session guard edits
IsOwnCall owner session (undo named) = ⊥
IsOwnCall owner session redo = ⊥
IsOwnCall owner session (tile stack at) = Unit {0}
IsOwnCall owner session (peek stack at) = Unit {0}
IsOwnCall owner session top = Unit {0}

abbrev pub IsOwnLine : (owner : ℕ → ℕ) → (session : ℕ) → Line → Type 0
IsOwnLine owner session (call c) = IsOwnCall owner session c
IsOwnLine owner session save = Unit {0}
IsOwnLine owner session (forget slot) = Unit {0}

-- the lines of the sessions from a first one on
abbrev pub AreOwn : (owner : ℕ → ℕ) → (first : ℕ) → List (List Line) → Type 0
AreOwn owner first [] = Unit {0}
AreOwn owner first (lines ∷ lists) = AllByRecursion (IsOwnLine owner first) lines × AreOwn owner (suc first) lists

-- the last line is a save
abbrev pub EndsWithSave : List Line → Type 0
EndsWithSave lines = (front : List Line) × (lines ≡ front ++ save ∷ [])
