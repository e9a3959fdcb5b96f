pub mod Loading
pub mod Played
-- what a command comes to, and what is told of a run
pub use Rattle.xl_outcome.specs.AtSource
pub use Rattle.xl_outcome.specs.Command
pub use Rattle.xl_outcome.specs.Files
pub use Rattle.xl_outcome.specs.Lines
pub use Rattle.xl_outcome.specs.Outcome
pub use Rattle.xl_outcome.specs.Parts
pub use Rattle.xl_play.specs.Told
