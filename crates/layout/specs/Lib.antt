-- The 32 bytes of an image, both ways.
pub mod Layout
