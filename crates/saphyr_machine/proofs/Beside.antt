-- Two machines side by side: what a step gives of both. Each step is walked here once, for all that its steps keep.
pub mod Machines
pub mod Nodes
pub mod Collections
pub mod Passing
pub mod Documents
