-- What contracts see of a reader: the text that remains, its place, and what a call leaves.
pub mod Cursor
pub mod Reader
