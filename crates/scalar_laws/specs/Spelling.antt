-- How scalars, and the spaces between them, are spelled, in the standard's words.
pub mod QuotedLines
pub mod Plain
pub mod Block
pub mod Spaces
