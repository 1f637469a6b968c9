-- The laws of one record that callers use.
mod Operands
pub mod Verdicts
pub mod Taken
