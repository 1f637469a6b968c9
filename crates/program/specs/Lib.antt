-- What the replay programs do with their input and output.
pub mod Programs
