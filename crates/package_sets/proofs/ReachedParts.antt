-- What a package or an interface reaches of a set.
pub mod ReachedByUsedNames
pub mod ReachesEarlierPackages
pub mod ReachedIsPart
