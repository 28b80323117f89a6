pub mod ListsInStep
pub mod Members
pub mod Sets
pub mod Items
