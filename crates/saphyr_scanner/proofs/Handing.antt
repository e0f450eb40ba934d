-- What a scanner hands out, a token at a time: the same as where it hands out nothing until all are read.
pub mod Filling
pub mod Unroll
pub mod Turns
pub mod Grown
pub mod Root
pub mod HandedOut
pub mod Lazy
