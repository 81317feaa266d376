mod WordFacts
pub mod CountedFacts
