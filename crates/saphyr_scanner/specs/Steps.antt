-- How the steps of a scanner are told, on what it knows and the tokens that it holds.
pub mod Queue
pub mod Gap
pub mod Level
pub mod Core
pub mod Passing
pub mod State
pub mod Unrolling
pub mod Flow
pub mod Value
pub mod Block
pub mod Scalar
pub mod Property
pub mod Document
pub mod Fetch
pub mod Remaining
