pub mod Asked
pub mod Earlier
pub mod Reader
