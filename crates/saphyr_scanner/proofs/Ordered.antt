-- Tokens are in order, by their places.
pub mod Queue
pub mod Run
