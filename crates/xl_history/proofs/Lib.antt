pub mod ByHistory
pub mod Events
pub mod Submitted
pub mod Saves
pub use Rattle.xl_desk.proofs.Opened
pub use Rattle.xl_desk.proofs.Costs
pub use Rattle.xl_desk.proofs.NoStep
