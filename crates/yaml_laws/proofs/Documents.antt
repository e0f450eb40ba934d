-- Directives, markers and the places between documents are passed.
pub mod Stands
pub mod Lines
pub mod Markers
pub mod Directives
