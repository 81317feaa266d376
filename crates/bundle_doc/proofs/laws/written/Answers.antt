use Rattle.jwk_set.proofs.PlainFacts.{has_float-plain}
use Rattle.bundle_doc.specs.Bundle.{document_tree}
use Rattle.bundle_doc.proofs.BundleFacts.{Means-document_tree, IsPlain-document_tree, depth-document_tree}
use Rattle.bundle_doc.proofs.laws.written.Goals as goal

pub returns-clause-reads_back : goal.returns-clause-reads_back
returns-clause-reads_back c = Means-document_tree

pub returns-clause-plain : goal.returns-clause-plain
returns-clause-plain c = IsPlain-document_tree

pub returns-clause-no_float : goal.returns-clause-no_float
returns-clause-no_float c = λ b is. has_float-plain (document_tree b) (IsPlain-document_tree b is)

pub returns-clause-shallow : goal.returns-clause-shallow
returns-clause-shallow c = depth-document_tree
