-- How events are printed.
pub mod Written
pub mod Numbers
pub mod Escapes
pub mod Blocks
pub mod Lines
pub mod Dumping
pub mod Complaints
pub mod Running
