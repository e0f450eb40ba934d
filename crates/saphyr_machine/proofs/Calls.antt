-- What calls hand out.
pub mod Handing
pub mod Looking
