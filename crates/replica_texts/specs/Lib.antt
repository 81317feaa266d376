-- What a caller cites is in the first nine; `Inside` has what the records of the code say, and the
-- steps of reading and writing.
pub mod Entries
pub mod Snapshots
pub mod WrittenSnapshot
pub mod Writing
pub mod Messages
pub mod FirstLines
pub mod Haves
pub mod Gives
pub mod SoleLines
pub mod Inside
