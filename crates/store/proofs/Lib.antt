pub mod Asking
pub mod Filing
pub mod Footing
pub mod Taking
pub mod Orders
pub mod Replying
