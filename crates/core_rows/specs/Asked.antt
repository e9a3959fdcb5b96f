-- What the tests ask, and how a history goes on by it.
use Rattle.std.specs.Prelude.{◌≡◌, [], ◌∷◌}
use Rattle.spec_document.specs.Picture.{project}
use Rattle.spec_edit.specs.Edit.{Edit, IsEdit}
use Rattle.spec_history.specs.Machine.{Call}
use Rattle.spec_history.specs.Calls.{IsCall}
use Rattle.spec_history.specs.Limited.{edits_of}
use Rattle.spec_tables.specs.Agrees.{AreThere}
use Rattle.xl_compose.specs.declared.clean.Done.{Done}
use Rattle.xl_core.specs.Editing.{IsPictureOf}
use Rattle.xl_core.specs.History.{History, version, document}

-- an edit within its type that names no filter
abbrev pub IsPlainEdit : Edit → Type 0
IsPlainEdit edit = IsEdit edit × AreThere [] (edit ∷ [])

-- a call within its type that names no filter
abbrev pub IsPlain : Call → Type 0
IsPlain call = IsCall call × AreThere [] (edits_of call)

-- what was right of a picture is right of it afterwards
abbrev pub PicturesStay : (old new : History) → Type 0
PicturesStay old new = (done : Done) → IsPictureOf old done → IsPictureOf new done

-- it shows a tile of a stack at the last version
pub record IsOfLast (h : History) (done : Done) : Type 0 where
  pub version_is : done.version ≡ version h
  pub picture_is : done.picture ≡ project (document h) done.node.0 done.at
