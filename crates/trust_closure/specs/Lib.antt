-- What a caller cites is in the first; `Inside` has what the closures keep.
pub mod Work
pub mod Inside
