pub mod Folding
pub mod Escapes
pub mod Flow
pub mod Lines
pub mod Block
