pub mod BundleFacts
pub mod EntryFacts
pub mod BuildFacts
pub mod RefusalFacts
pub mod CanonicalAuthorityFacts
pub mod CanonicalReaderFacts
pub mod HexFacts
mod StandardFacts
mod HashedFacts
