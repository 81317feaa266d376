pub mod NextPolls
pub mod PollTexts
