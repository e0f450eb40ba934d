pub mod Later
pub mod Printed
pub mod Calls
pub mod Long
