-- What steps add to the queue: few tokens, and the end of the stream after all others.
pub mod Queue
pub mod StreamEnds
pub mod Bound
