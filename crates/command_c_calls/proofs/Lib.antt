pub mod CanonFacts
