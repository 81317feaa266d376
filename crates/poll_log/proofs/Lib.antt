mod MemberFacts
pub mod PollFacts
pub mod SecondsFacts
pub mod PollLineFacts
pub mod PollReadFacts
pub mod PollLawFacts
mod StandardFacts
