-- What each step makes of what may follow it, so that any tokens give a beginning of some forest's events.
pub mod Following
pub mod Turning
pub mod Tags
pub mod Content
pub mod Nodes
pub mod Entries
pub mod Sequences
pub mod Mappings
pub mod Block
pub mod Directives
pub mod Documents
pub mod DocumentEnds
