-- What a reader takes off a text, in steps, as the code does.
pub mod Plain
pub mod PlainLines
pub mod Quoted
pub mod Block
pub mod BlockRead
pub mod Tag
pub mod Anchor
pub mod Directive
pub mod Sets
