pub mod LineEndFacts
mod MemoryFacts
