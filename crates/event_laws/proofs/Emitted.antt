-- The tokens of a forest give its events.
pub mod Emitting
pub mod Nodes
pub mod SinglePairs
pub mod FlowPairs
pub mod Block
pub mod Scalars
pub mod Collections
pub mod Entries
pub mod Trees
pub mod Documents
pub mod Streams
