-- Channels, lines and sets of channels, and the raises of an event.
pub mod Channels
pub mod Raises
