-- What a caller cites is in `Journal`; `Inside` has the steps of reading.
pub mod Journal
pub mod Inside
