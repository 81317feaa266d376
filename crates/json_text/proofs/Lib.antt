mod StandardFacts
pub mod PartFacts
