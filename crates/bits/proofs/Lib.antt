-- The laws of bits and of two truth values.
pub mod Bits
