-- What the functions of the lines share.
mod Levels
