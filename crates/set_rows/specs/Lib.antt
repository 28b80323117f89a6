pub mod Marking
pub mod Moved
pub mod Owners
pub mod Places
pub mod Reaches
pub mod Renamed
