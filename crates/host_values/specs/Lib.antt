pub mod Filling
pub mod Reading
pub mod Requests
pub mod Arguments
pub mod Results
