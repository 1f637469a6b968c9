-- What the proofs share, and what a refused event leaves.
pub mod Refused
