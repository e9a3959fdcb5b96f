pub mod Standing
pub mod Played
pub mod Serving
pub mod Talked
pub mod Talking
pub mod Causes
-- of a core
pub use Rattle.xl_history.specs.Editing
pub use Rattle.xl_history.specs.History
