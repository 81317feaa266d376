pub mod AskedRun
pub mod StreamSteps
pub mod NewLineSteps
pub mod ReplySteps
