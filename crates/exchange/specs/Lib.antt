pub mod Mail
pub mod Given
pub mod ReadSo
pub mod Exchanged
pub mod Piles
