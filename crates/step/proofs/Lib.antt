-- The laws of n clocks that its functions and its callers use.
pub mod Clocks
