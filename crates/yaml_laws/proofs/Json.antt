-- Each text of JSON is a text of YAML's grammar.
pub mod White
pub mod Calm
pub mod Becomes
pub mod WordCharacters
pub mod Words
pub mod Escapes
pub mod Quotes
pub mod Parts
pub mod Nodes
pub mod Texts
