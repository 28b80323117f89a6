-- What is stored in memory: its blocks and its bytes, and that it is held there.
pub mod AsksRequests
pub mod StoredBytesStand
pub mod StandingIsHeld
pub mod WritesOwnPlaceAndBlocks
pub mod SameSteps
pub mod StoredStays
pub mod StoredIsHeld
pub mod StoresTyped
pub mod VisitsNodes
