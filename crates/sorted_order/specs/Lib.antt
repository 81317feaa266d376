-- What a caller cites is in the first three; `Inside` has the blocks in which the numbers lie, and
-- what the order's own searches answer.
pub mod Sequence
pub mod Sought
pub mod ArenaView
pub mod Inside
