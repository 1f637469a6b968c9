-- What the exports promise, beside mfp.
pub mod Same
