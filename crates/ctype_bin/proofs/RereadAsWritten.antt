-- What is written of a value is read as that value, or a fault of it is met.
pub mod Combinators
pub mod Declarations
pub mod Files
pub mod Types
