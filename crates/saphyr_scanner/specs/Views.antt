-- What contracts see of tokens, of the queue and of the engine.
pub mod Tokens
pub mod Texts
pub mod Places
pub mod Reads
pub mod Queue
pub mod Scanning
pub mod Engine
pub mod Ahead
pub mod Lines
