pub mod Layer
pub mod Wire
