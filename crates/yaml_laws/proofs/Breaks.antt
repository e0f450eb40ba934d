-- A text and its normalized text, scanned side by side.
pub mod Normal
pub mod Places
pub mod Gaps
pub mod Forward
pub mod Cores
pub mod States
pub mod Indicators
pub mod Scalars
pub mod Documents
pub mod Runs
