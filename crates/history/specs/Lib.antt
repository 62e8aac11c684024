pub mod History
pub mod Orders
pub mod Settled
pub mod Stated
pub mod Chopped
