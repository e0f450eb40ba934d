-- Where steps refuse.
pub mod Refusals
pub mod Documents
pub mod Reads
