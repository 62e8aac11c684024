pub mod Lines
pub mod Paragraphs
pub mod Grows
pub mod Handing
