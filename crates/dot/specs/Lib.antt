pub mod Stuffing
pub mod Undot
pub mod Dot
pub mod Law
pub mod ByLines
