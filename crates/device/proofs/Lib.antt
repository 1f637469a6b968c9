-- The laws of the device.
pub mod Levels
