pub mod Defining
pub mod Planning
