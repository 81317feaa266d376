use Rattle.std.proofs.Common.{sym, subst}
use Rattle.bundle_doc.specs.Bundle.{Means}
use Rattle.bundle_doc.proofs.BundleFacts.{Means-document_tree}
use Rattle.bundle_doc.proofs.document.Document.to_value.Goals as goal

pub returns-clause-reads_back : goal.returns-clause-reads_back
returns-clause-reads_back c =
    subst (λ d. Means d c.args.self.now) (sym c.in_ok-value.ensures.tree) (Means-document_tree c.args.self.now c.tree.ensures.form)
