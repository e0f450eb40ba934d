-- The steps of a machine, by what is expected.
pub mod Machine
pub mod Contexts
pub mod Tags
pub mod Nodes
pub mod Block
pub mod Flow
pub mod Documents
pub mod Expected
