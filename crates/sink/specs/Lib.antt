pub mod Sink
pub mod Law
pub mod Same
