mod Trails
mod Groups
mod Sides
mod Making
pub mod Ready
mod Alone
mod SameStacks
pub use Rattle.xl_pool.proofs.Between
pub use Rattle.xl_pool.proofs.Joined
pub use Rattle.xl_desk.proofs.AskedSoFar
