-- Load and save of an image.
pub mod Image
