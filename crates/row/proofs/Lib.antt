-- What the two loops over a row share.
pub mod Going
