-- What each step of the scanner does, in one statement.
pub mod Readers
pub mod Steps
pub mod Moves
pub mod Puts
pub mod Walked
pub mod Flow
pub mod Values
pub mod Blocks
pub mod QuotedScalars
pub mod Scalars
pub mod Properties
pub mod States
pub mod Documents
pub mod Fetch
