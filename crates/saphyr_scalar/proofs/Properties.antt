-- Anchors, tags and percent escapes: each spelled one is read, and what is read is spelled so.
pub mod AnchorSteps
pub mod TagSteps
pub mod ByteSteps
pub mod AnchorsRead
pub mod BytesSpelled
pub mod EscapedBytes
pub mod EscapesRead
pub mod EscapesSpelled
pub mod PercentEscapes
pub mod TagsRead
pub mod TagsSpelled
pub mod UniqueBytes
pub mod BareCharacters
pub mod UriTurns
pub mod Refused
