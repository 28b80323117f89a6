pub mod LeavesWords
pub mod TextsOfWords
pub mod ListsStillToWrite
pub mod WordsOfResults
mod PrintingByGrammar
mod WordsAtTheFront
mod WordsStand
mod WordsAreLexed
mod TokensOfWords
mod TypesAreSpelled
mod FunctionsAreSpelled
mod DefinitionsAreSpelled
mod PathsAreSpelled
mod EntriesAreSpelled
mod FilesAreReadBack
