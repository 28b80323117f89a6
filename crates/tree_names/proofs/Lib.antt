pub mod NestingDepths
pub mod NamesAsGraphNodes
pub mod WorldScopes
