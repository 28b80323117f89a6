pub mod TextsAndBlocksStand
pub mod ReadingStepByStep
pub mod ListsAreLoaded
pub mod LiftingStepByStep
pub mod DenotingWholeLists
pub mod OneFieldRecords
pub mod HeldValuesAreTyped
pub mod ScriptPartsInOrder
pub mod EachValueHasAScript
pub mod EventsBeforeFirstFault
pub mod StoredFromParts
pub mod PlacesOfFields
pub mod LoweredFromParts
pub mod OnlyAllocatorsRefuse
pub mod CallerSideOfTypedCalls
pub mod ScalarsLowered
pub mod ScalarListBytes
mod HeadExamples
