pub mod AlikeFacts
pub mod ContainsFacts
pub mod CountFacts
pub mod RisingFacts
pub mod MemberFacts
pub mod FitFacts
pub mod UnionFacts
pub mod NodeFacts
pub mod FlagFacts
mod BucketFacts
mod StandardFacts
