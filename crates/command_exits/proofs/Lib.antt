pub mod ConfigFacts
