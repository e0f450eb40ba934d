-- What is read as a plain scalar and as a block scalar, in the standard's words: which piece of a text, and its value.
pub mod Plain
pub mod BlockLines
pub mod BlockText
