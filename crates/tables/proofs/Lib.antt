pub mod TextsComparedByParts
pub mod ClosedTypesRowByRow
mod ClosesAlike
pub mod NamesEarlierTypes
pub mod HasStandardTypes
pub mod ErasesToClosed
pub mod Examples
