pub mod Splits
pub mod Decimals
pub mod HexPairs
mod Fronts
