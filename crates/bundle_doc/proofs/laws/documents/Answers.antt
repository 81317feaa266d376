use Rattle.bundle_doc.proofs.BundleFacts.{one_document, one_text, IsDocument-canonical_text}
use Rattle.bundle_doc.proofs.RefusalFacts.{refused_none, one_cause}
use Rattle.bundle_doc.proofs.laws.documents.Goals as goal

pub returns-clause-one : goal.returns-clause-one
returns-clause-one c = one_document

pub returns-clause-none : goal.returns-clause-none
returns-clause-none c = refused_none

pub returns-clause-one_cause : goal.returns-clause-one_cause
returns-clause-one_cause c = one_cause

pub returns-clause-one_text : goal.returns-clause-one_text
returns-clause-one_text c = one_text

pub returns-clause-reads_back : goal.returns-clause-reads_back
returns-clause-reads_back c = IsDocument-canonical_text
