pub mod Common
pub mod Beginnings
pub mod Directives
pub mod Breaks
pub mod Block
pub mod Quoted
pub mod Plain
