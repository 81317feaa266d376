use Rattle.std.proofs.Common.{List, ℕ, sym, subst}
use Rattle.bundle_doc.specs.Bundle.{Bundle, IsStoredDocument, IsDocument}
use Rattle.bundle_doc.proofs.BundleFacts.{IsDocument-canonical_text}
use Rattle.bundle_doc.proofs.document.Document.read.Goals as goal

-- the text of a document in memory is a document of its bundle, for the reader of canonical texts
IsDocument-kept : (bytes : List ℕ) (b : Bundle) → IsStoredDocument b bytes → IsDocument bytes b
IsDocument-kept bytes b kept = subst (λ t. IsDocument t b) (sym kept.text) (IsDocument-canonical_text b kept.is kept.fits)

pub returns-in-Some : goal.returns-in-Some
returns-in-Some c =
    let kept : IsStoredDocument c.in-Some.document c.args.bytes.now = rw c.in-Some.is at c.in_ok-document.ensures in
    IsDocument-kept c.args.bytes.now c.in-Some.document kept
