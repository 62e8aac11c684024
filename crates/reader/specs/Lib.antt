pub mod Handing
pub mod Plans
pub mod States
pub mod Deliveries
pub mod Reading
pub mod Readers
pub mod Whole
