pub mod Faults
pub mod Lookahead
pub mod Grammar
pub mod Left
