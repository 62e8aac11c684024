pub mod Going
pub mod Accepting
