pub mod FunctionsInLayouts
