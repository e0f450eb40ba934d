pub mod Passed
pub mod Pieces
pub mod Views
