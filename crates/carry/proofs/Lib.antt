pub mod Sending
pub mod Passing
pub mod Footing
pub mod Returning
pub mod Tripping
