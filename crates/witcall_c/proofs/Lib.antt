pub mod HandlesAsMachineValues
mod IndexSent
mod HandlesAreSend
