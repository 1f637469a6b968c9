-- A truth value as a bit, and bytes in a list.
pub mod Bits
pub mod Bytes
