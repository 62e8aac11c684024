pub mod Ends
pub mod Buffers
pub mod Lawful
