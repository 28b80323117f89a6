pub mod FileView
pub mod Exactness
pub mod Spellable
pub mod Encoding
pub mod Parts
pub mod InRange
pub mod Accepted
