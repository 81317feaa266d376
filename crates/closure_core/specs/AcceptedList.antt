-- What is asked of a closure
use Rattle.std.specs.Prelude.{ℕ, ◌==◌, Bool, true, List, Contains, Option, Some, None}
use Rattle.std.specs.Prelude.{slice_index_or}
use Rattle.std.specs.declared.cmp.Ordering.{Ordering}
use Rattle.std.specs.Ordering.{nat_cmp, ordering_then}
use Rattle.std.specs.Option.{option_cmp}
use Rattle.std.specs.Cmp.Lexicographic.{slice_cmp}
use Rattle.std.specs.List.{filter}
use Rattle.std.specs.List.Sorted.{IsStrictlySortedBy}
use Rattle.bundle_doc.specs.Bundle.{Bundle, canonical_text}
use Rattle.receipt_core.specs.Receipt.{Receipt, Pair, receipt_id_of}
use Rattle.receipt_core.specs.Acceptance.{Meaning, IsMember, IsPending}
use Rattle.closure_core.specs.Count.{IsCount}

-- documents are ordered by rank, with an absent one below 0, and then by the bytes of their
-- canonical texts
abbrev pub document_cmp : Bundle → Bundle → Ordering
document_cmp a b = ordering_then (option_cmp nat_cmp a.rank b.rank)
    (slice_cmp nat_cmp (canonical_text a) (canonical_text b))

abbrev pub document_of : List ℕ → Bundle → Pair
document_of domain document = record { domain = domain; document = document }

-- the accepted documents of the domain, each once, in their order
pub record IsAcceptedList (m : Meaning) (domain : List ℕ) (documents : List Bundle) : Type 0 where
  pub rising : IsStrictlySortedBy document_cmp documents
  pub sound : (d : Bundle) → Contains documents d → IsMember m (document_of domain d)
  pub complete : (d : Bundle) → IsMember m (document_of domain d) → Contains documents d

-- exactly this many held receipts are vouched for by no accepted document
abbrev pub IsPendingCount : Meaning → ℕ → Type 0
IsPendingCount m n = IsCount (IsPending m) n

-- the receipt's id begins with the byte
abbrev pub is_in_bucket : ℕ → Receipt → Bool
is_in_bucket bucket r = slice_index_or (receipt_id_of r) 0 0 == bucket

abbrev pub receipts_in : ℕ → List Receipt → List Receipt
receipts_in bucket held = filter (is_in_bucket bucket) held

-- the receipt is one of the bucket, or no bucket is asked for
abbrev pub is_within : Option ℕ → Receipt → Bool
is_within None r = true
is_within (Some bucket) r = is_in_bucket bucket r

-- all receipts, or those of one bucket
abbrev pub receipts_within : Option ℕ → List Receipt → List Receipt
receipts_within None held = held
receipts_within (Some bucket) held = receipts_in bucket held
