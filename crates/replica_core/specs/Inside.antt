-- Worlds as the code plays them, places for more receipts and records, and records taken together
pub mod Earlier
pub mod FreePlaces
pub mod ReplicasInMemory
pub mod RecordsToo
