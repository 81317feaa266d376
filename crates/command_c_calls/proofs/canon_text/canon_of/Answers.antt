use Rattle.std.proofs.Common.{◌∙◌, ◌++◌, ◌+◌, ap, take}
use Rattle.bundle_doc.specs.Bundle.{document_limit}
use Rattle.fedbundle.specs.Canon.{canon_text}
use Rattle.command_c_calls.proofs.CanonFacts.{whole_document, whole_refusal}
use Rattle.command_c_calls.proofs.canon_text.canon_of.Goals as goal

-- the source had all bytes of the document, and the sink had none
pub returns-in-Ok : goal.returns-in-Ok
returns-in-Ok c =
    let run = c.in-Ok.ensures.runs in
    record {
      document = run.document;
      read = whole_document c.args.document.now run.read.bytes run.document
          (run.read.read.0 ∙ ap (take (document_limit + 1)) c.in_ok-source.ensures) run.read.is;
      is = c.into_text.ensures ∙ run.written ∙ ap (λ front. front ++ canon_text c.args.domain.now run.document) c.new-sink.ensures.empty;
    }

pub returns-in-Err-Document : goal.returns-in-Err-Document
returns-in-Err-Document c =
    let run = rw c.in-Err-Document.field-0-is at c.in-Err-Document.ensures.runs in
    whole_refusal c.args.document.now run.bytes c.in-Err-Document.why (run.read.0 ∙ ap (take (document_limit + 1)) c.in_ok-source.ensures) run.cause
