-- What a caller cites is in `Pieces`; `Inside` has the steps of the code.
pub mod Pieces
pub mod Inside
