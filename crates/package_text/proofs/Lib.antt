pub mod WrittenTrees
pub mod ResolvedTrees
pub mod TableRows
pub mod TreeAndTextStandForPackage
pub mod PrintableTrees
pub mod OneTablePerTree
