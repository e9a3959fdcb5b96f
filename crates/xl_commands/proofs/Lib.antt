pub mod Edited
pub mod MadeRuns
-- of what commands and runs come to
pub use Rattle.xl_outcome.proofs.AtSource
pub use Rattle.xl_outcome.proofs.Causes
pub use Rattle.xl_outcome.proofs.FirstSaves
pub use Rattle.xl_outcome.proofs.OtherNames
pub use Rattle.xl_outcome.proofs.ScriptEnded
pub use Rattle.xl_outcome.proofs.StopLines
pub use Rattle.xl_outcome.proofs.Taken
pub use Rattle.xl_play.proofs.ScriptPlayed
pub use Rattle.xl_report.proofs.MadeNumbered
