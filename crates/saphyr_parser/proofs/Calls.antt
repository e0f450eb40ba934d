-- What calls hand out, and the parsers that they leave.
pub mod Soundness
pub mod Loaded
