-- What a caller cites is in the first seven; `Inside` has worlds as the code plays them, and places
-- for more receipts and records.
pub mod State
pub mod Session
pub mod Lacking
pub mod Absorbing
pub mod SyncErrors
pub mod World
pub mod Convergence
pub mod Inside
