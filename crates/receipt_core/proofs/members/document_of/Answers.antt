use Rattle.bundle_doc.proofs.RefusalFacts.{tree_none}
use Rattle.receipt_core.proofs.members.document_of.Goals as goal

pub returns-in_ok-memory_only-in-Err : goal.returns-in_ok-memory_only-in-Err
returns-in_ok-memory_only-in-Err c = λ b h. tree_none _ c.in-Err.error b c.in-Err.ensures c.in_ok-memory_only-in-Err.ensures h.0 h.1
