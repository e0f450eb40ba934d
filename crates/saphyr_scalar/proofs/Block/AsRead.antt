-- What is read as a block scalar is one in the standard's words.
pub mod HeaderLines
pub mod InsideLines
pub mod Widths
pub mod Wholes
