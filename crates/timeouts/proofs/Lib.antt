-- The laws of clocks and count pulses that callers use.
pub mod Raises
pub mod Rule
