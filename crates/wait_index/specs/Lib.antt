-- What a caller cites is in the first four; `Inside` has what the index keeps and its invariants.
pub mod Net
pub mod Index
pub mod Close
pub mod Edge
pub mod Inside
