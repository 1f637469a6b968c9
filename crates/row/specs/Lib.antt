-- A row of devices, acknowledged together.
pub mod Rows
