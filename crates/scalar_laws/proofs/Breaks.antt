-- The readers give the same of a text and of its normalized text.
pub mod Sides
pub mod Results
pub mod Separations
pub mod Names
pub mod Directives
pub mod Blocks
pub mod Quotes
pub mod PlainScalars
pub mod Readers
