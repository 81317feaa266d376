mod ServingFacts
mod DrivenServing
mod TakingFacts
pub mod PullingFacts
pub mod WelcomeFacts
pub mod SessionFacts
pub mod OwnMessageFacts
pub mod UnderstandingFacts
mod WorldFacts
mod BringsFacts
mod CutFacts
pub mod ServedPieceFacts
pub mod ServeLawFacts
mod NewEntryFacts
mod NewsFacts
pub mod PullLinesFacts
pub mod PulledPieceFacts
pub mod PullStepFacts
mod FeedFacts
mod FeedSearch
mod DrivenPulls
mod PullLawFacts
pub mod PlanLawFacts
mod StandardFacts
