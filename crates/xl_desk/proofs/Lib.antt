mod Numbers
pub mod AskedSoFar
pub mod CleanTiles
pub mod Opened
pub mod Costs
pub mod NoStep
