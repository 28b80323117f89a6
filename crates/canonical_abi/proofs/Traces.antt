-- What a list of events does to a memory.
pub mod BytesWrittenOver
pub mod WritesCommute
pub mod ConfinedTraces
pub mod TracesLeaveImages
pub mod WhatTracesKeep
pub mod StoppedTracesAreConfined
pub mod TameTraces
