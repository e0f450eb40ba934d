-- Block scalars: each spelled one is read, and what is read has the value of its lines.
pub mod Indentations
pub mod Law
pub mod Lines
pub mod Reads
pub mod Texts
pub mod Turns
pub mod Values
pub mod Wholes
pub mod PlacedHeaders
pub mod Placed
pub mod Refused
pub mod AsRead
