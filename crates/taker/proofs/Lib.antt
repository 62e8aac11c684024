pub mod Going
pub mod Through
