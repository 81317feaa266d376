pub mod KeyIdFacts
pub mod OrderFacts
pub mod BracketFacts
pub mod HexFacts
pub mod LineFacts
pub mod RisingFacts
pub mod VouchingFacts
pub mod ReadFacts
pub mod SearchFacts
pub mod FloorFacts
pub mod ChainFacts
pub mod LimitFacts
mod StandardFacts
