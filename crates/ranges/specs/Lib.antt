pub mod Bytewise
pub mod Plan
pub mod Columns
