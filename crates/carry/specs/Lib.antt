pub mod Back
pub mod Trip
