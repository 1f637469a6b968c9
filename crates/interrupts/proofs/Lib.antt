-- The laws of the interrupt controller that callers use.
pub mod Raises
pub mod Rule
