pub mod SlashFacts
pub mod FaultFacts
pub mod PathFacts
pub mod IdFacts
pub mod PlainFacts
mod StandardFacts
