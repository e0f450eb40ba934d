-- Directives: each spelled one is read, and what is read is spelled so.
pub mod Numbers
pub mod HandleSteps
pub mod PartEnds
pub mod VersionsRead
pub mod TagPrefixesRead
pub mod TailsRead
pub mod Read
pub mod LowBytes
pub mod NamesSpelled
pub mod VersionsSpelled
pub mod TagPrefixesSpelled
pub mod TailsSpelled
pub mod ValuesSpelled
pub mod Spelled
pub mod Refused
