-- A log as the code holds it, and the steps of reading one
pub mod Statuses
pub mod PollSteps
