pub mod Entering
pub use Rattle.xl_history.specs.Editing
pub use Rattle.xl_history.specs.History
pub use Rattle.xl_history.specs.Now
