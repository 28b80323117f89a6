pub mod Declarations
pub mod File
