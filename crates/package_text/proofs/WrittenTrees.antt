-- What is written for the rows of a table, and what it stands for.
pub mod WrittenStandsForTree
pub mod EntriesOfRows
pub mod ExpressionsOfKinds
pub mod TreeByNames
pub mod PartsOfInterfaces
pub mod PathsSpelledByNames
pub mod ReferencesToRows
pub mod WrittenStandsForWorlds
