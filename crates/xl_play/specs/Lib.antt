pub mod Playing
pub mod Told
pub mod Windows
-- of a core
pub use Rattle.xl_history.specs.Editing
pub use Rattle.xl_history.specs.History
pub use Rattle.xl_history.specs.Now
