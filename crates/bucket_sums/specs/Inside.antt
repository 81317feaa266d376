-- How sums are kept and lines compared, and how the pieces of a question and of an answer are taken
pub mod KeptSteps
pub mod Comparing
pub mod QuestionSteps
pub mod AnswerSteps
pub mod OpeningSteps
pub mod QuietSteps
pub mod QuietTurns
pub mod QuietPullSteps
