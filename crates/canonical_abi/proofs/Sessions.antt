-- A list of calls: what stays held, and what values tell of the memories.
pub mod TracesOfSameValues
pub mod CalleeKeepsHeld
pub mod ValuesTellTraces
pub mod HeldStaysHeld
pub mod RunsWithOneStepMore
pub mod TrapsShowEvents
pub mod OnlyValuesCross
pub mod HeldValues
pub mod PlacedIsHeld
pub mod CalleeIsTold
pub mod TameTrapsShowValues
