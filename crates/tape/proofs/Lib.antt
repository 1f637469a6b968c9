-- The laws of a tape's records.
pub mod Chunks
pub mod Tapes
