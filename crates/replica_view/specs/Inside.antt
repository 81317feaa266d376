-- What the accepted documents offer, which documents vouch for what is shown, and lines and graphs
-- as far as they are made.
pub mod Offered
pub mod MadeLines
pub mod ShownForms
pub mod ShownVouchers
pub mod GraphParts
