-- What a caller cites is in the first nine; `Inside` has the steps of sessions.
pub mod SessionRun
pub mod Serving
pub mod Pulling
pub mod Events
pub mod Pieces
pub mod Plans
pub mod AnsweredFrom
pub mod ServedPieces
pub mod PulledPieces
pub mod PullSessions
pub mod Inside
