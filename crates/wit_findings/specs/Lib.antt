pub mod Findings
pub mod Numbers
pub mod Refusals
