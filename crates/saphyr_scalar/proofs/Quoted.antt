-- Quoted scalars and their escapes: each spelled one is read, and what is read is spelled so.
pub mod Escapes
pub mod Refused
pub mod Gaps
pub mod GapBytes
pub mod Lines
pub mod LineTurns
pub mod Parts
pub mod Inside
pub mod SpelledEscapes
pub mod SpelledGaps
pub mod SpelledLines
pub mod SpelledWords
pub mod Spellings
pub mod Clean
pub mod Words
