pub mod SameKindsAreEqual
pub mod Examples
pub mod FaultsByNextToken
pub mod ProductionsReadExactly
pub mod TwoNestingLimits
pub mod TokensTellTheText
pub mod HasFullNames
pub mod IdentityMaps
