-- Plain scalars: each spelled one is read.
pub mod White
pub mod Ends
pub mod Texts
