-- A row of images, acknowledged together.
pub mod RowImages
pub mod Private
