pub mod Sound
pub mod Steps
pub mod ByPhase
pub mod Wiring
pub mod Law
pub mod Alike
