-- What is written of a value spells it, where anything does.
pub mod Combinators
pub mod ValueTypes
pub mod Declarations
pub mod Files
pub mod Types
