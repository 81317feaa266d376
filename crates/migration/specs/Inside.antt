-- What carrying has done so far.
pub mod Carrying
