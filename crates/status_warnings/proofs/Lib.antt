mod PartFacts
mod WarningFacts
