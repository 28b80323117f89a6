pub mod FunctionTypesAsFields
pub mod WrittenTextsAreReadBack
pub mod SetLabelsAreApart
