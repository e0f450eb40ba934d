pub mod Common
pub mod InBlock
pub mod InFlow
pub mod Flow
pub mod Documents
pub mod Breaks
pub mod Json
