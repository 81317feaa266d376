pub mod ExportFacts
pub mod HandleValues
pub mod Values
