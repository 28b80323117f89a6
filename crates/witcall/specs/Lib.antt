pub mod Calling
pub mod Laws
pub mod Replying
pub mod Running
pub mod Session
pub mod Status
pub mod Steps
