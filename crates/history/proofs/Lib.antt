pub mod Stating
pub mod Chopping
