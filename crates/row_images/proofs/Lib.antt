-- The laws of a row of images.
pub mod Records
pub mod Checks
pub mod Going
pub mod Results
