-- Block scalars: each spelled one is read.
pub mod Complete
pub mod EmptyBodies
pub mod Headers
pub mod LeadingLines
pub mod PlacedValues
