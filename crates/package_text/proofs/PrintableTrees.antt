-- The tree of a table has a text.
pub mod LabelsOneByOne
pub mod NestsAsText
pub mod RowsHaveTexts
pub mod ListsFitTheText
pub mod SpansDoNotMatter
pub mod TypesAreSpelled
pub mod TreesHaveTexts
pub mod VersionsAreOneToken
