-- Each reader gives the same where more of the text comes, unless it leaves an open rest.
pub mod Rests
pub mod Steps
pub mod Runs
pub mod Names
pub mod Plain
pub mod Quoted
pub mod Directives
pub mod Blocks
