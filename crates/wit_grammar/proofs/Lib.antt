pub mod FaultsAreHandedOn
pub mod TypesByFirstToken
pub mod BytesOfVersions
pub mod LowerNamesAreNames
pub mod TokensFromAnIndex
