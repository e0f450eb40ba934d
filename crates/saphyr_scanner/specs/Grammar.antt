-- Forests, and the tokens that stand for them (YAML 1.2.2).
pub mod Characters
pub mod Forest
pub mod Tokens
pub mod TokenGrammar
