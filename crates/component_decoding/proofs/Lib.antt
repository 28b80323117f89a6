pub mod TypesByOpcode
