-- Each production is read exactly: just what is spelled, or the first fault.
pub mod TypesByOpcode
pub mod ChoicesByFirstByte
pub mod PlainProductions
pub mod Files
pub mod Types
pub mod CustomSections
pub mod ItemLoops
pub mod Numbers
pub mod ItemLoopsWithState
pub mod SizedParts
