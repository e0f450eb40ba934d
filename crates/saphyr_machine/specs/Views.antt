-- What contracts see of events and of what the parser is made of.
pub mod Machines
pub mod Nodes
pub mod Documents
pub mod Kept
pub mod Readers
pub mod Events
