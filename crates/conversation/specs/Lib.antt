pub mod Mail
pub mod Rules
pub mod Reads
pub mod Promise
