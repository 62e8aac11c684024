pub mod Givens
pub mod Pieces
pub mod Mails
pub mod Matching
pub mod Exchanging
