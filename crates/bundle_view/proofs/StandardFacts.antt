-- The definitions at examples
use Rattle.std.proofs.Common.{◌≡◌, ℕ, List, [], ◌∷◌, ◌++◌, codes, decimal, Option, Some, None, Less, Greater, refl, sym, ◌∙◌, inl, inr}
use Rattle.std.specs.List.{Contains}
use Rattle.hex.specs.Hex.{encode_with}
use Rattle.jwk_set.specs.declared.authority.Authority.{Authority}
use Rattle.bundle_doc.specs.Bundle.{Bundle}
use Rattle.bundle_doc.specs.declared.document.DocId.{DocId}
use Rattle.receipt_core.specs.declared.distrust.Distrust.{Distrust}
use Rattle.closure_core.specs.AcceptedList.{document_cmp}
use Rattle.bundle_view.specs.declared.conflict.ConflictKind.TheVariants.{Keys, HintOnly}
use Rattle.bundle_view.specs.Current.{IsNoLower}
use Rattle.bundle_view.specs.Conflicts.{IsOfKind}
use Rattle.bundle_view.specs.Report.{current_line, conflict_line, reported_distrust_line, records_of, sequence_text}
use Rattle.closure_core.proofs.ContainsFacts.{contains_first, contains_later, contains_none, contains_cases}

-- a document from its parts
abbrev document : List Authority → Option ℕ → Option ℕ → Bundle
document authorities rank hint = record { authorities = authorities; rank = rank; hint = hint }

-- ---- the order of documents: an absent rank is below 0, and the rank decides before the text

-- a document without a sequence number is below one with 0
absent_below_zero : (keys more : List Authority) → document_cmp (document keys None None) (document more (Some 0) None) ≡ Less
absent_below_zero keys more = refl

-- sequence numbers are compared as numbers, before the texts
rank_decides : (keys more : List Authority) (hint : Option ℕ) → document_cmp (document keys (Some 7) hint) (document more (Some 10) None) ≡ Less
rank_decides keys more hint = refl

-- a document with a sequence number is above one without
greater_rank : (keys more : List Authority) → document_cmp (document keys (Some 1) None) (document more None None) ≡ Greater
greater_rank keys more = refl

-- ---- a current document is not lower than another if it is the same or greater

-- nothing is lower than no document
no_lower_than_none : (later : Option Bundle) → IsNoLower None later
no_lower_than_none later = tt

-- a greater sequence number is not lower
greater_is_no_lower : (keys more : List Authority) → IsNoLower (Some (document keys (Some 1) None)) (Some (document more (Some 2) None))
greater_is_no_lower keys more h = cc

-- a smaller one is lower
lower_is_lower : (keys more : List Authority) → IsNoLower (Some (document keys (Some 2) None)) (Some (document more (Some 1) None)) → ⊥
lower_is_lower keys more h = h refl

-- no document is lower than any
none_is_lower : (d : Bundle) → IsNoLower (Some d) None → ⊥
none_is_lower d h = h

-- ---- kinds of conflicts: other authorities, or only other hints

-- documents with different authorities are in a conflict of keys
other_keys : (key : Authority) (rank : Option ℕ) → ((key ∷ []) ≡ [] → ⊥) → IsOfKind (document (key ∷ []) rank None ∷ document [] rank None ∷ []) Keys
other_keys key rank differ =
    let one : Bundle = document (key ∷ []) rank None in
    let other : Bundle = document [] rank None in
    record {
      one = one;
      has_one = contains_first one (other ∷ []);
      other = other;
      has_other = contains_later one (other ∷ []) other (contains_first other []);
      differ = differ;
    }

-- both documents have the same authorities
has_keys : (keys : List Authority) (rank : Option ℕ) (d : Bundle)
    → Contains (document keys rank (Some 300) ∷ document keys rank None ∷ []) d → keys ≡ d.authorities
has_keys keys rank d h = elim (contains_cases (document keys rank (Some 300)) (document keys rank None ∷ []) d h) [
  | inl same ↦ (λ i. (same i).authorities)
  | inr later ↦ elim (contains_cases (document keys rank None) [] d later) [
    | inl same ↦ (λ i. (same i).authorities)
    | inr none ↦ absurd (contains_none d none)
  ]
]

-- documents that differ in their hint alone are in a conflict of hints
other_hints : (keys : List Authority) (rank : Option ℕ) → IsOfKind (document keys rank (Some 300) ∷ document keys rank None ∷ []) HintOnly
other_hints keys rank d e h k = sym (has_keys keys rank d h) ∙ has_keys keys rank e k

-- ---- lines

-- the line of a domain without a current document
no_current : (domain : List ℕ) → current_line domain None ≡ codes "  current none\n"
no_current domain = refl

-- what is written for an absent sequence number
absent_sequence : sequence_text None ≡ codes "none"
absent_sequence = refl

-- a sequence number is written in decimal
some_sequence : (n : ℕ) → sequence_text (Some n) ≡ decimal n
some_sequence n = refl

-- a document id of one byte in place of one of 32
abbrev id : ℕ → DocId
id byte = record { 0 = byte ∷ [] }

-- the line of a conflict of keys
conflict_of_keys : conflict_line (record {
  domain = codes "a.example";
  sequence = 7;
  kind = Keys;
  documents =
      id 171 ∷ id 1 ∷ [];
}) ≡ codes "  conflict " ++ (decimal 7 ++ codes " keys ab 01\n")
unfolding encode_with
conflict_of_keys = refl

-- the line of a conflict of hints
conflict_of_hints : conflict_line (record {
  domain = codes "a.example";
  sequence = 10;
  kind = HintOnly;
  documents =
      id 1 ∷ id 171 ∷ [];
}) ≡ codes "  conflict " ++ (decimal 10 ++ codes " hint 01 ab\n")
unfolding encode_with
conflict_of_hints = refl

-- the line of a record of distrust
distrusted : reported_distrust_line (record { domain = codes "a.example"; key = record { 0 = 186 ∷ 120 ∷ 22 ∷ 191 ∷ [] } }) ≡ codes "  distrust ba7816bf\n"
unfolding encode_with
distrusted = refl

-- a record of distrust of a domain
abbrev in_domain : List ℕ → DocId → Distrust
in_domain domain id = record { domain = domain; key = record { 0 = id.0 } }

-- the records of another domain are left out, and the others keep their order
of_one_domain : (one other : DocId) → records_of (codes "a") (in_domain (codes "a") one ∷ in_domain (codes "b") one ∷ in_domain (codes "a") other ∷ [])
    ≡ in_domain (codes "a") one ∷ in_domain (codes "a") other ∷ []
of_one_domain one other = refl
