-- How the order keeps its numbers, and what its own searches answer
pub mod Blocks
pub mod Seeking
