pub mod Types
pub mod Instance
pub mod World
pub mod Component
pub mod Readers
pub mod Names
