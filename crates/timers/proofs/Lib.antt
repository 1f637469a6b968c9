-- The laws of the four timers that callers use.
pub mod Rule
