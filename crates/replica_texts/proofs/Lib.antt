mod HeaderFacts
pub mod HeldFacts
pub mod SnapshotFacts
mod SoleLineFacts
mod WritingFacts
mod FeedFacts
pub mod OneFacts
mod DigestFacts
mod CountFacts
mod NextFacts
mod ApartFacts
mod GlueFacts
mod PieceFacts
mod ScanFacts
mod HaveLineFacts
mod GiveHeaderFacts
pub mod IdListFacts
mod FirstLineFacts
mod FeedlessFacts
mod HaveReadingFacts
pub mod OneHaveFacts
pub mod ContentFacts
pub mod GatherFacts
pub mod GiveFacts
pub mod WrittenPieceFacts
mod MessageFaultFacts
mod SnapshotFaultFacts
mod StandardFacts
