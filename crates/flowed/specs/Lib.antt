pub mod Came
pub mod Mail
pub mod Compose
pub mod Usage
