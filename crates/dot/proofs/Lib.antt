pub mod ByLines
pub mod Moves
