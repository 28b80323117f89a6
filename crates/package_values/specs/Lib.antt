pub mod Calls
pub mod Json
pub mod Numbers
