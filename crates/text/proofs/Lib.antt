-- The laws of decimal numbers, of sizes, and of a line in a buffer that the functions use.
pub mod Decimal
pub mod Sizes
pub mod Whole
pub mod Sample
