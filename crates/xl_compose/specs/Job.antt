-- The picture of a tile of a stack that is to be composed, beside edits.
use Rattle.std.specs.Prelude.{◌≡◌, ℕ, ◌*◌, ◌≤◌, List, Option, Some, IsSome}
use Rattle.spec_document.specs.Forest.{stack_at}
use Rattle.spec_document.specs.declared.TileAt.{TileAt}
use Rattle.spec_document.specs.Document.{Document}
use Rattle.spec_document.specs.Picture.{project}
use Rattle.xl_compose.specs.declared.clean.Done.{Done}
use Rattle.xl_compose.specs.declared.pieces.Piece.{Piece}
use Rattle.xl_compose.specs.declared.span.Band.{Band}
use Rattle.xl_compose.specs.Cost.{tile_points, visible_below}
use Rattle.xl_compose.specs.Levels.{points}
use Rattle.xl_compose.specs.Pieces.{composed, weights}

-- the tile, the version, the picture that composing gives, and how many steps it takes at most
pub record Job : Type 0 where
  pub stack : ℕ
  pub at : TileAt
  pub version : ℕ
  pub picture : List ℕ
  pub cost : ℕ

-- the job of these pieces
abbrev pub planned : (stack : ℕ) → TileAt → (version : ℕ) → (colours : List (List ℕ)) → Band → List Piece → Job
planned stack at version colours band pieces =
    record {
      stack = stack;
      at = at;
      version = version;
      picture = composed colours band pieces;
      cost =
          weights pieces * points band;
    }

-- it gives the picture of a document, in at most one step for each pixel of the tile and each visible node below the stack
pub record StandsFor (d : Document) (stack : ℕ) (at : TileAt) (version : ℕ) (job : Job) : Type 0 where
  pub stack_is : job.stack ≡ stack
  pub at_is : job.at ≡ at
  pub version_is : job.version ≡ version
  pub picture_is : job.picture ≡ project d stack at
  pub cost_is : job.cost ≤ visible_below d stack * tile_points d at

-- what composing the job gives
pub record IsDone (job : Job) (done : Done) : Type 0 where
  pub node_is : done.node.0 ≡ job.stack
  pub at_is : done.at ≡ job.at
  pub version_is : done.version ≡ job.version
  pub picture_is : done.picture ≡ job.picture

-- each picture that is given for the tile of a group of a document is that group's
abbrev pub AreClean : (clean : ℕ → TileAt → Option (List ℕ)) → Document → TileAt → Type 0
AreClean clean d at =
    (group : ℕ) (bytes : List ℕ) → 1 ≤ group → IsSome (stack_at group d.nodes) → clean group at ≡ Some bytes
    → bytes ≡ project d group at
