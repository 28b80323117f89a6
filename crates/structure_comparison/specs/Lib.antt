pub mod InStep
pub mod Types
pub mod Interfaces
pub mod Worlds
pub mod Packages
