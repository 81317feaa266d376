pub mod OfferFacts
pub mod MadeLineFacts
mod GraphFacts
mod VoucherFacts
