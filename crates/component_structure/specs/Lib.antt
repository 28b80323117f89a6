pub mod Bytes
pub mod Names
pub mod Parts
pub mod Types
