-- The laws of a run.
pub mod Going
pub mod Results
