-- Quoted scalars: each spelled one is read.
pub mod IndentedLines
pub mod Reads
pub mod WordsRead
