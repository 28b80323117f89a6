pub mod Module
pub mod Sections
