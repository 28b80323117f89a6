-- What is written of accepted parts spells them.
pub mod ValueTypes
pub mod Declarations
pub mod Files
pub mod Types
