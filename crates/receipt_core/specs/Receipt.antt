-- Receipts, their one spelling, what they need and what they offer; and records of distrust.
use Rattle.std.specs.Prelude.{◌≡◌, ℕ, ◌<◌, List, [], length, map, codes, Option, Some, None, fold}
use Rattle.std.specs.declared.cmp.Ordering.{Ordering}
use Rattle.std.specs.Ordering.{nat_cmp, ordering_then}
use Rattle.std.specs.Cmp.Lexicographic.{slice_cmp}
use Rattle.std.specs.List.{AllByRecursion}
use Rattle.hex.specs.Hex.{encode_lower}
use Rattle.serde_json.specs.Data.{Data, string, object, no_members, member}
use Rattle.serde_json.specs.Written.{compact_text}
use Rattle.sha2.specs.Sha256.{sha256}
use Rattle.spiffe_name.specs.TrustDomain.{IsDomainText}
use Rattle.spiffe_name.specs.SpiffeId.{Id, IsId}
use Rattle.jwk_set.specs.Element.{key_id_of}
use Rattle.jwk_set.specs.declared.authority.Authority.{Authority}
use Rattle.jwk_set.specs.declared.authority.KeyId.{KeyId}
use Rattle.bundle_doc.specs.Bundle.{Bundle, IsBundle, Fits, document_tree, doc_id_of}
use Rattle.bundle_doc.specs.declared.document.DocId.{DocId}
use Rattle.receipt_core.specs.Rising.{with_item}
use Rattle.receipt_core.specs.declared.distrust.Distrust.{Distrust}
use Rattle.receipt_core.specs.declared.triple.Triple.{Triple}

-- What was noted of one fetch: which document came for which domain, from which endpoint; and which
-- key of which bundle (the voucher) of the endpoint's trust domain proved that endpoint (SPIFFE
-- Federation, section 5.2, https_spiffe).
pub record Receipt : Type 0 where
  pub domain : List ℕ
  pub endpoint : Id
  pub document : Bundle
  pub voucher : DocId
  pub key : KeyId

-- 32 bytes
pub record IsDigest (bytes : List ℕ) : Type 0 where
  pub size : length bytes ≡ 32
  pub octets : AllByRecursion (λ b. b < 256) bytes

pub record IsReceipt (r : Receipt) : Type 0 where
  pub domain : IsDomainText r.domain
  pub endpoint : IsId r.endpoint
  pub document : IsBundle r.document
  pub fits : Fits r.document
  pub voucher : IsDigest r.voucher.0
  pub key : IsDigest r.key.0

-- ---- the line

abbrev pub receipt_tree : Receipt → Data
receipt_tree r = object
    (member (codes "doc") (document_tree r.document)
    (member (codes "domain") (string r.domain)
    (member (codes "endpoint") (string r.endpoint.text)
    (member (codes "key") (string (encode_lower r.key.0))
    (member (codes "voucher") (string (encode_lower r.voucher.0)) no_members)))))

-- the one spelling, without a line feed
unfoldable pub line : Receipt → List ℕ
line r = compact_text (receipt_tree r)

-- the SHA-256 of the line (FIPS 180-4)
unfoldable pub receipt_id_of : Receipt → List ℕ
receipt_id_of r = sha256 (line r)

-- receipts are ordered by their lines' bytes
abbrev pub receipt_cmp : Receipt → Receipt → Ordering
receipt_cmp r s = slice_cmp nat_cmp (line r) (line s)

-- the set of receipts with one more
abbrev pub with_receipt : Receipt → List Receipt → List Receipt
with_receipt = with_item receipt_cmp

-- ---- needs and offers

-- a document of a domain
pub record Pair : Type 0 where
  pub domain : List ℕ
  pub document : Bundle

abbrev pub pair_of : Receipt → Pair
pair_of r = record { domain = r.domain; document = r.document }

abbrev pub key_cmp : KeyId → KeyId → Ordering
key_cmp a b = slice_cmp nat_cmp a.0 b.0

-- an X.509 authority's key id goes to the others
abbrev pub with_key_id : Option KeyId → List KeyId → List KeyId
with_key_id None keys = keys
with_key_id (Some key) keys = with_item key_cmp key keys

-- the different key ids of the X.509 authorities, sorted
abbrev pub key_ids : List Authority → List KeyId
key_ids authorities = fold (λ keys authority. with_key_id (key_id_of authority) keys) [] authorities

-- what a document of a domain can vouch by: its id and each of its key ids
abbrev pub offer_of : Pair → KeyId → Triple
offer_of p key = record {
  domain = p.domain;
  document = record { 0 = doc_id_of p.domain p.document };
  key = key;
}

abbrev pub offers_of : Pair → List Triple
offers_of p = map (offer_of p) (key_ids p.document.authorities)

-- what a receipt has to be vouched for by: the named key of the named document of the endpoint's
-- domain
abbrev pub need_of : Receipt → Triple
need_of r = record { domain = r.endpoint.domain; document = r.voucher; key = r.key }

-- triples are ordered by domain, document id and key id
abbrev pub triple_cmp : Triple → Triple → Ordering
triple_cmp a b = ordering_then (slice_cmp nat_cmp a.domain b.domain)
    (ordering_then (slice_cmp nat_cmp a.document.0 b.document.0) (key_cmp a.key b.key))

-- ---- distrust

-- a record's one spelling, without a line feed
abbrev pub distrust_tree : Distrust → Data
distrust_tree x = object
    (member (codes "distrust") (string (encode_lower x.key.0))
    (member (codes "domain") (string x.domain) no_members))

unfoldable pub distrust_line : Distrust → List ℕ
distrust_line x = compact_text (distrust_tree x)

pub record IsDistrust (x : Distrust) : Type 0 where
  pub domain : IsDomainText x.domain
  pub key : IsDigest x.key.0

-- records are ordered by key id, then by domain, as their lines are
abbrev pub distrust_cmp : Distrust → Distrust → Ordering
distrust_cmp x y = ordering_then (key_cmp x.key y.key) (slice_cmp nat_cmp x.domain y.domain)

abbrev pub with_distrust : Distrust → List Distrust → List Distrust
with_distrust = with_item distrust_cmp
