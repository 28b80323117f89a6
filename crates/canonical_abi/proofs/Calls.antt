-- A call, its halves and its link: that each keeps the promise, and what each does at most.
pub mod TrapsHaveCauses
pub mod VisitsFewNodes
pub mod HalvesKeepPromise
pub mod HalvesAreACall
pub mod WaysOfCalls
pub mod LinkKeepsPromise
pub mod ExactIsEither
pub mod CallKeepsPromise
pub mod ResultIsHeld
pub mod TameLinkKeepsPromise
pub mod TameCallKeepsPromise
pub mod TameHalvesKeepPromise
