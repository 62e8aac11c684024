pub mod Composed
pub mod Agree
