pub mod Grammar
pub mod SameKinds
