-- Nodes in flow style inside open block collections.
pub mod States
pub mod Tabs
pub mod Quotes
pub mod OnLine
pub mod KeyLines
pub mod KeyFirsts
pub mod Keys
