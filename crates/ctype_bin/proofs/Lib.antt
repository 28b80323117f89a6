pub mod ReadsExactly
pub mod DecodesByProductions
pub mod BytesPastTheLimit
pub mod RewrittenIsSpelt
pub mod RereadAsWritten
pub mod WrittenComponentsAreReadBack
pub mod SpeltIndicesAreInRange
pub mod AcceptedIsSpelt
