-- Values in core values: what they are lowered to denotes them, and is told by them.
pub mod LoweredIsDenoted
pub mod LoweredValuesLift
pub mod SameLowering
