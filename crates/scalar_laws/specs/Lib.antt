pub mod Spelling
pub mod Alike
