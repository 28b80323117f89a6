pub mod Bytes
pub mod Members
pub mod Scalar
pub mod Scalars
pub mod Types
pub mod Val
