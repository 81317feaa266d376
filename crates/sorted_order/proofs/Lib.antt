pub mod BackwardFacts
pub mod BlockFacts
pub mod SumFacts
pub mod SearchFacts
pub mod PickedFacts
pub mod OrderFacts
mod StandardFacts
