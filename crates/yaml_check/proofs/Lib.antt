pub mod FoundIn
pub mod Judging
pub mod KeyMaps
pub mod LineLemmas
pub mod StatusLemmas
pub mod StepsBack
pub mod Reported
pub mod ViewParts
