pub mod Permitted
pub mod Results
pub mod Sight
