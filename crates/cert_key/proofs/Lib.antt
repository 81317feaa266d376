pub mod StepFacts
pub mod ElementFacts
pub mod TimeFacts
pub mod CertificateFacts
pub mod ContentFacts
pub mod NameFacts
pub mod DigitFacts
pub mod MomentFacts
