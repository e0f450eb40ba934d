-- The short ways to the next token, which most tokens take.
pub mod RightHere
pub mod Feeds
pub mod LinesPassed
pub mod Dashes
pub mod QuotedEnds
