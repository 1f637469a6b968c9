-- The registers and levels of the lines and timer inputs.
pub mod Registers
