-- What a caller cites is in the first six; `Inside` has how what is lent and what is accepted
-- is known by numbers and flags.
pub mod Count
pub mod AcceptedList
pub mod Order
pub mod Refusals
pub mod Changes
pub mod Alike
pub mod Inside
