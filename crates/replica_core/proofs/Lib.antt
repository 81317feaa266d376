pub mod ContainsFacts
pub mod RisingListFacts
pub mod JoinLawFacts
mod WorldJoins
pub mod EventFacts
mod KeptFacts
mod Provenance
mod StateFacts
pub mod ExchangeFacts
pub mod BucketFacts
mod AgreementFacts
mod WorldLawFacts
mod WorkedRunFacts
mod Settling
pub mod HaveFacts
mod IdFacts
mod LentGiveFacts
pub mod PlaceFacts
mod EarlierFacts
pub mod UnwelcomeFacts
mod RoomFacts
mod JoiningFacts
mod AbsorbFacts
mod GrownFacts
mod EffectFacts
mod SoundFacts
mod ReplicaFacts
mod StandardFacts
