pub mod Handing
mod Delivering
mod Settling
mod Feeding
pub mod Whole
