-- Directives: each reserved one is read.
pub mod ReservedRead
