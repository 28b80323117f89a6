pub mod AskedAhead
pub mod RequestsOfParts
pub mod RequestsOfWholeWays
pub mod VisitedNodesAreFew
