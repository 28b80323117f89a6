pub mod Rows
pub mod Worlds
pub mod Component
pub mod ToComponent
pub mod FromComponent
pub mod Laws
