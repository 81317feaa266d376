-- `Changes` has what a change says, `ChangeTexts` how that is written, and `TurnTexts` in which
-- order.
pub mod Changes
pub mod ChangeTexts
pub mod TurnTexts
