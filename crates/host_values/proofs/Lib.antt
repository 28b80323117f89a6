pub mod FilledMemoriesKeepNames
pub mod WhatIsToldCanBeRead
pub mod RequestsOfValues
