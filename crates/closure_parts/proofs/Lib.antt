pub mod PlaceFacts
mod RecordFacts
mod HeldFacts
pub mod ConfigFacts
pub mod HeldChangeFacts
mod MergeFacts
mod JoinFacts
pub mod VouchingFacts
pub mod NodeCountFacts
pub mod PairFacts
pub mod AcceptedFacts
