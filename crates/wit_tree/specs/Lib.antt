pub mod Faults
pub mod Told
pub mod Trees
pub mod Words
