-- What a line of a session makes.
use Rattle.std.specs.Prelude.{◌≡◌, ℕ, Bool, if◌then◌else◌, List, [], ◌∷◌, slice_set, Option, None}
use Rattle.std.specs.Prelude.{option_map, unwrap_or}
use Rattle.spec_document.specs.Document.{Document}
use Rattle.spec_filters.specs.declared.FilterState.{FilterState}
use Rattle.spec_history.specs.Machine.{Call, Reply, version_shown}
use Rattle.xl_ports.specs.State.{ShelfState}
use Rattle.spec_script.specs.Script.{Line, call, save, forget}
use Rattle.spec_text.specs.Text.{digest_of}
use Rattle.xl_studio.specs.Answered.{IsReplied}
use Rattle.xl_studio.specs.Calling.{Known}
use Rattle.spec_seats.specs.Digests.{asks_tile}
use Rattle.xl_studio.specs.Saving.{IsSaved}
use Rattle.xl_run.specs.Printing.{IsPrinted}

-- ---- the digests

-- the digest of the bytes, where a tile was asked for and is the reply
abbrev pub said : (asks : Bool) → Reply → (bytes : List ℕ) → List (List ℕ)
said asks reply bytes = unwrap_or (option_map (λ version. if asks then digest_of bytes ∷ [] else []) (version_shown reply)) []

-- ---- a line

module _ {K : Type 0} where
  -- A call was answered, and printably. What is said of it is the digest of the tile that it is shown.
  pub record IsCallMade (base : Document) (session : ℕ) (c : Call) (before after : List (Option FilterState)) (old new : Known K)
      (digests : List (List ℕ)) : Type 0 where
    pub reply : Reply
    pub bytes : List ℕ
    pub replied : IsReplied base session c before after bytes old new reply
    pub printed : IsPrinted reply
    pub digests_are : digests ≡ said (asks_tile c) reply bytes

  -- a save was answered, and printably
  pub record IsSaveMade (see : K → ShelfState) (opening : K) (base : Document) (session : ℕ) (old new : Known K) : Type 0 where
    pub reply : Reply
    pub saved : IsSaved see opening base session reply old new
    pub printed : IsPrinted reply

  -- what a line of the script makes, and the digests that are said of it
  abbrev pub IsLineMade : (see : K → ShelfState) → (opening : K) → (base : Document) → (session : ℕ) → Line
      → (before after : List (Option FilterState)) → (old new : Known K) → (digests : List (List ℕ)) → Type 0
  IsLineMade see opening base session (call c) before after old new digests = IsCallMade base session c before after old new digests
  IsLineMade see opening base session save before after old new digests =
      IsSaveMade see opening base session old new × (after ≡ before) × (digests ≡ [])
  IsLineMade see opening base session (forget slot) before after old new digests =
      (new ≡ old) × (after ≡ slice_set before slot None) × (digests ≡ [])
