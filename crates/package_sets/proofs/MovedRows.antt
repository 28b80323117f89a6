-- Rows that are put into another table.
pub mod IdsOfInterfaces
pub mod SameInPlace
pub mod WhatRowsName
pub mod MovedRowsKeepMeaning
pub mod MovedBackIsSame
