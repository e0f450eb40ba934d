-- Each step of the scanner gives the same where more of the text comes, unless it leaves an open rest.
pub mod Cores
pub mod Gaps
pub mod Indicators
pub mod Scalars
pub mod Documents
pub mod Fetches
pub mod Scans
pub mod HandedTokens
