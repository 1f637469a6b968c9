-- The laws of sets of channels that callers use.
pub mod Tables
pub mod Sets
pub mod Raises
