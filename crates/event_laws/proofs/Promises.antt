-- The promises on a parser, from what is proved of its tokens and its machine: a file for each, by its name, and what
-- they share.
pub mod Forests
pub mod ReadsEach
pub mod JsonEvents
pub mod ReadsJson
pub mod ReadsYaml
pub mod CommonBeginnings
pub mod EachForest
pub mod ClosedTokens
pub mod ReadsClosedYaml
pub mod TakesEvents
pub mod KeepsSpans
pub mod WithinLimit
pub mod OneMeaning
