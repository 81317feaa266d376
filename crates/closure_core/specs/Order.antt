-- The order of documents is total.
use Rattle.std.specs.Cmp.{IsTotalOrder, then_total, on_total, nat_cmp_total}
use Rattle.std.specs.Cmp.Lexicographic.{on_texts, options_total}
use Rattle.bundle_doc.specs.Bundle.{Bundle, canonical_text}
use Rattle.closure_core.specs.AcceptedList.{document_cmp}

pub document_total : IsTotalOrder document_cmp
document_total = then_total (on_total (λ (d : Bundle). d.rank) (options_total nat_cmp_total))
    (on_texts canonical_text)
