pub mod ScalarLists
pub mod TypesShapes
pub mod TypesExtents
pub mod FieldsFromAPlace
pub mod PackageTypesAreStandard
pub mod WeakerAnswers
pub mod ValueOfEachVariant
pub mod ValuesOfTypesByShape
