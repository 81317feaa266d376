use Rattle.std.proofs.Common.{◌≡◌, ◌∙◌, sym, ap, ap₂, bytes_eq}
use Rattle.std.proofs.lemmas.Slice.Eq.{bytes_eq-Decides}
use Rattle.bundle_doc.specs.Bundle.{canonical_text, same_text}
use Rattle.bundle_doc.proofs.BundleFacts.{one_text}
use Rattle.bundle_doc.proofs.document.DocumentPartialEq.eq.Goals as goal

pub returns-clause-meaning : goal.returns-clause-meaning
returns-clause-meaning c =
    let answer : c.eq.result ≡ same_text c.args.self.now c.args.other.now = c.eq.ensures ∙ ap₂ bytes_eq c.canonical.ensures.text c.canonical-2.ensures.text in
    let decides = bytes_eq-Decides (canonical_text c.args.self.now) (canonical_text c.args.other.now) in (
      λ h. one_text c.args.self.now c.args.other.now c.canonical.ensures.form c.canonical-2.ensures.form (decides.0 (sym answer ∙ h)),
      λ e. answer ∙ decides.1 (ap canonical_text e),
    )
