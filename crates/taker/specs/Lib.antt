pub mod Paragraph
pub mod Mail
pub mod Events
pub mod Law
pub mod Tickets
