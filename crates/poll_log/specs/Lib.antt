-- What a caller cites is in the first three; `Inside` has a log as the code holds it, and the steps
-- of reading.
pub mod Polling
pub mod PollErrors
pub mod PollLines
pub mod Inside
