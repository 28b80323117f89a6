pub mod AlikeExamples
mod BlocksApart
mod BumpAlike
mod CopiedEnds
mod FirstFitAlike
mod FirstFitGrowth
mod FirstFitSteps
mod AlikeMemoriesGrowAlike
mod HolesGivenBack
mod HeaderLists
mod HeadersAlike
mod HoleLists
mod HoleRows
mod HoleSteps
mod HoleTails
pub mod LentNamesStay
pub mod LentAllocatesInOneWay
mod AllocatesInOneWay
mod PageSteps
mod SpaceAlike
mod LiveUnits
