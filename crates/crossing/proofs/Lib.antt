pub mod PartsOfWaysInOrder
pub mod ScriptsOfTypes
pub mod OneNodeOfAWay
pub mod ScriptsOfFlatValues
pub mod ScriptsOfWholeWays
pub mod ElementsCrossedTogether
pub mod ParametersInOrder
mod RecordMembersByStep
mod OneFieldCrosses
