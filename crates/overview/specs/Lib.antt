pub mod Contents
pub mod LayoutLines
