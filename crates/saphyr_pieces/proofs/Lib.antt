pub mod Behind
pub mod Places
pub mod IdleTokens
pub mod Stepping
