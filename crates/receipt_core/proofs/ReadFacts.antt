-- A line is JSON of one value, which says one receipt; and how long it is.
use Rattle.std.proofs.Common.{◌≡◌, ℕ, ◌+◌, ◌<◌, ◌≤◌, List, length, codes, Some, Ok, true, refl, ap, sym, ◌∙◌, subst, arith, length-append}
use Rattle.std.specs.Str.{IsUtf8}
use Rattle.hex.specs.Hex.{encode_lower, decode_sized}
use Rattle.json.proofs.Printed.Utf8.{are_ascii, IsUtf8-are_ascii}
use Rattle.serde_json.specs.Data.{Data, string, object, member, no_members, depth}
use Rattle.serde_json.specs.Read.{read, max_depth}
use Rattle.jwk_set.specs.Json.{IsJson, IsPlain}
use Rattle.jwk_set.specs.Element.{HasText}
use Rattle.jwk_set.proofs.PlainFacts.{IsJson-compact_text}
use Rattle.spiffe_name.specs.SpiffeId.{Id, IsId}
use Rattle.spiffe_name.proofs.IdFacts.{one_value}
use Rattle.spiffe_name.proofs.PlainFacts.{IsPlainText-domain, IsPlainText-id}
use Rattle.bundle_doc.specs.Bundle.{Bundle, IsStoredDocument, Means, document_tree, canonical_text}
use Rattle.bundle_doc.proofs.BundleFacts.{IsPlain-document_tree, Means-document_tree, one_meaning, depth-document_tree}
use Rattle.receipt_core.specs.Receipt.{Receipt, IsReceipt, IsDigest, line, receipt_tree, IsDistrust, distrust_line, distrust_tree}
use Rattle.receipt_core.specs.Line.{IsLine, IsNoLine, IsRecord, IsNoRecord, RefusesRecord, IsNoJson, Unless, SaysReceipt, SaysDocument, SaysDistrust}
use Rattle.receipt_core.specs.Parts.{pieces, distrust_pieces}
use Rattle.receipt_core.specs.declared.distrust.Distrust.{Distrust}
use Rattle.receipt_core.specs.declared.line_error.LineError.{LineError}
use Rattle.receipt_core.specs.declared.line_error.LineError.TheVariants.{NotCanonical, TooLong, NoMemory}
use Rattle.spiffe_name.specs.TrustDomain.{IsDomainText}
use Rattle.receipt_core.proofs.HexFacts.{IsUtf8-encode_lower, length-encode_lower, decode_sized-encode_lower}
use Rattle.receipt_core.proofs.LineFacts.{line_text, distrust_line_text}

-- ---- lengths

-- the length of a line from those of its parts
length-pieces : (d n e k v : List ℕ) → length (pieces d n e k v) ≡ 56 + length d + length n + length e + length k + length v
unfolding pieces
length-pieces d n e k v = simp length-append (omega arith)

-- no receipt's line is longer than 1,051,063 bytes
pub length-line : (r : Receipt) → IsReceipt r → length (line r) ≤ 1051063
length-line r h =
    let whole = ap length (line_text r h) ∙ length-pieces (canonical_text r.document) r.domain r.endpoint.text
    (encode_lower r.key.0) (encode_lower r.voucher.0) in
    let key = length-encode_lower r.key.0 h.key in
    let voucher = length-encode_lower r.voucher.0 h.voucher in
    let domain = h.domain.limit in
    let endpoint = h.endpoint.limit in
    let document : length (canonical_text r.document) ≤ 1048576 = h.fits in
    within (length (canonical_text r.document)) (length r.domain) (length r.endpoint.text)
    (length (encode_lower r.key.0)) (length (encode_lower r.voucher.0)) (length (line r)) whole document domain
    endpoint key voucher
  where
    within : (d n e k v w : ℕ) → w ≡ 56 + d + n + e + k + v → d ≤ 1048576 → n ≤ 255 → e ≤ 2048 → k ≡ 64 → v ≡ 64 → w ≤ 1051063
    within d n e k v w whole pd pn pe pk pv = omega arith

-- ---- the tree

-- the digits of a digest are UTF-8
utf8_digits : (digest : List ℕ) → IsDigest digest → IsUtf8 (encode_lower digest)
utf8_digits digest h = IsUtf8-encode_lower digest h.octets

-- a text whose bytes pass the test for ASCII is UTF-8: for the names of members
ascii : (t : List ℕ) → are_ascii t ≡ true → IsUtf8 t
ascii = IsUtf8-are_ascii

-- the value of a receipt is plain if its parts are
plain_tree : (d : Data) (n e k v : List ℕ) → IsPlain d → IsUtf8 n → IsUtf8 e → IsUtf8 k → IsUtf8 v
    → IsPlain (object (member (codes "doc") d
    (member (codes "domain") (string n)
    (member (codes "endpoint") (string e)
    (member (codes "key") (string k) (member (codes "voucher") (string v) no_members))))))
plain_tree d n e k v pd pn pe pk pv = (
  ascii (codes "doc") refl,
  pd,
  (refl, (refl, (refl, (refl, tt)))),
  (
    ascii (codes "domain") refl,
    pn,
    (refl, (refl, (refl, tt))),
    (
      ascii (codes "endpoint") refl,
      pe,
      (refl, (refl, tt)),
      (
        ascii (codes "key") refl,
        pk,
        (refl, tt),
        (ascii (codes "voucher") refl, pv, tt, tt),
      ),
    ),
  ),
)

-- the value of a receipt nests within the limit of JSON texts
shallow_tree : (d : Data) (n e k v : List ℕ) → depth d ≤ 4
    → depth (object (member (codes "doc") d
    (member (codes "domain") (string n)
    (member (codes "endpoint") (string e)
    (member (codes "key") (string k) (member (codes "voucher") (string v) no_members)))))) ≤ max_depth
shallow_tree d n e k v h = omega arith

-- a receipt's line is a JSON text of its value
pub IsJson-line : (r : Receipt) → IsReceipt r → IsJson (line r) (receipt_tree r)
unfolding line
IsJson-line r h =
    IsJson-compact_text (receipt_tree r)
    (plain_tree (document_tree r.document) r.domain r.endpoint.text (encode_lower r.key.0) (encode_lower r.voucher.0)
    (IsPlain-document_tree r.document h.document) (IsPlainText-domain r.domain h.domain).utf8 (IsPlainText-id r.endpoint h.endpoint).utf8
    (utf8_digits r.key.0 h.key) (utf8_digits r.voucher.0 h.voucher))
    (shallow_tree (document_tree r.document) r.domain r.endpoint.text (encode_lower r.key.0) (encode_lower r.voucher.0) (depth-document_tree r.document))

-- the value of a receipt says it
says_line : (r : Receipt) → IsReceipt r → SaysReceipt (receipt_tree r) r
says_line r h = record {
  document = (document_tree r.document, refl, Means-document_tree r.document h.document, h.fits);
  domain = refl;
  endpoint = refl;
  key = refl;
  voucher = refl;
  is = h;
}

-- a value has one text at most under a name
one_text : (tree : Data) (name s t : List ℕ) → HasText tree name s → HasText tree name t → s ≡ t
one_text tree name s t p q = cc

-- a value says one document at most
pub one_document : (tree : Data) (b c : Bundle) → SaysDocument tree b → SaysDocument tree c → b ≡ c
one_document tree b c p q =
    let found : Some p.0 ≡ Some q.0 = sym p.1 ∙ q.1 in
    let same : p.0 ≡ q.0 = cc in
    one_meaning p.0 b c p.2 (subst (λ t. Means t c) (sym same) q.2)

-- a value has one digest at most under a name, since its digits decode to it
one_digest : (tree : Data) (name a b : List ℕ) → HasText tree name (encode_lower a) → HasText tree name (encode_lower b) → IsDigest a → IsDigest b → a ≡ b
one_digest tree name a b p q pa qb =
    let texts : encode_lower a ≡ encode_lower b = one_text tree name (encode_lower a) (encode_lower b) p q in
    let both : Ok a ≡ Ok b = sym (decode_sized-encode_lower a pa) ∙ ap (λ t. decode_sized t 32) texts ∙ decode_sized-encode_lower b qb in
    cc

-- a value says one receipt at most
one_said : (tree : Data) (r s : Receipt) → SaysReceipt tree r → SaysReceipt tree s → r ≡ s
one_said tree r s p q =
    let documents = one_document tree r.document s.document p.document q.document in
    let domains = one_text tree (codes "domain") r.domain s.domain p.domain q.domain in
    let endpoints = one_value r.endpoint s.endpoint p.is.endpoint q.is.endpoint
    (one_text tree (codes "endpoint") r.endpoint.text s.endpoint.text p.endpoint q.endpoint) in
    let keys = one_digest tree (codes "key") r.key.0 s.key.0 p.key q.key p.is.key q.is.key in
    let vouchers = one_digest tree (codes "voucher") r.voucher.0 s.voucher.0 p.voucher q.voucher p.is.voucher q.is.voucher in
    λ i. record { domain = domains i; endpoint = endpoints i; document = documents i; voucher = record { 0 = vouchers i }; key = record { 0 = keys i } }

-- the value of a line says its receipt
says_of_line : (bytes : List ℕ) (tree : Data) (r : Receipt) → IsJson bytes tree → IsLine bytes r → SaysReceipt tree r
says_of_line bytes tree r json is =
    let both : Some tree ≡ Some (receipt_tree r) = sym json.1 ∙ ap read is.text ∙ (IsJson-line r is.is).1 in
    let same : tree ≡ receipt_tree r = unwrapped tree (receipt_tree r) both in
    subst (λ t. SaysReceipt t r) (sym same) (says_line r is.is)
  where
    unwrapped : (a b : Data) → Some a ≡ Some b → a ≡ b
    unwrapped a b e = cc

-- bytes whose value says no receipt are not a line
pub no_line_said : (bytes : List ℕ) (tree : Data) → IsJson bytes tree → ((r : Receipt) → SaysReceipt tree r → ⊥) → IsNoLine bytes
no_line_said bytes tree json none = λ r is. none r (says_of_line bytes tree r json is)

-- bytes whose value says a receipt with another line are not a line
pub another_line : (bytes : List ℕ) (tree : Data) (s : Receipt) → IsJson bytes tree → SaysReceipt tree s → (line s ≡ bytes → ⊥) → IsNoLine bytes
another_line bytes tree s json says other = λ r is.
    let same : s ≡ r = one_said tree s r says (says_of_line bytes tree r json is) in
    other (ap line same ∙ sym is.text)

-- bytes that are not JSON text are not a line
pub no_line_parsed : (bytes : List ℕ) (e : LineError) → Unless e (IsNoJson bytes) → Unless e (IsNoLine bytes)
no_line_parsed bytes NotCanonical h = λ r is. h (receipt_tree r) (subst (λ t. IsJson t (receipt_tree r)) (sym is.text) (IsJson-line r is.is))
no_line_parsed bytes TooLong h = h
no_line_parsed bytes NoMemory h = tt

-- bytes longer than the longest line are not a line
pub no_long_line : (bytes : List ℕ) → 1051063 < length bytes → IsNoLine bytes
no_long_line bytes long = λ r is. let short = length-line r is.is in let same = ap length is.text in absurd (omega arith)

-- parts that were read from the pieces of a line are the receipt of that line
pub IsLine-pieces : (b : Bundle) (n : List ℕ) (id : Id) (k v dt nt et kt vt : List ℕ) → IsStoredDocument b dt
    → (n ≡ nt) × IsDomainText n → (id.text ≡ et) × IsId id → (encode_lower k ≡ kt) × IsDigest k
    → (encode_lower v ≡ vt) × IsDigest v
    → IsLine (pieces dt nt et kt vt) (record { domain = n; endpoint = id; document = b; voucher = record { 0 = v }; key = record { 0 = k } })
IsLine-pieces b n id k v dt nt et kt vt document domain endpoint key voucher =
    let is : IsReceipt (record { domain = n; endpoint = id; document = b; voucher = record { 0 = v }; key = record { 0 = k } }) = record {
      domain = domain.1;
      endpoint = endpoint.1;
      document = document.is;
      fits = document.fits;
      voucher = voucher.1;
      key = key.1;
    } in
    record {
      is = is;
      text = (λ i. pieces (document.text i) (sym domain.0 i) (sym endpoint.0 i) (sym key.0 i) (sym voucher.0 i))
          ∙ sym (line_text (record { domain = n; endpoint = id; document = b; voucher = record { 0 = v }; key = record { 0 = k } }) is);
    }

-- ---- records of distrust

-- the length of a record's line from those of its parts
length-distrust_pieces : (k n : List ℕ) → length (distrust_pieces k n) ≡ 27 + length k + length n
unfolding distrust_pieces
length-distrust_pieces k n = simp length-append (omega arith)

-- no record's line is longer than 346 bytes
length-distrust_line : (x : Distrust) → IsDistrust x → length (distrust_line x) ≤ 346
length-distrust_line x h =
    let whole = ap length (distrust_line_text x h) ∙ length-distrust_pieces (encode_lower x.key.0) x.domain in
    let key = length-encode_lower x.key.0 h.key in
    within (length (encode_lower x.key.0)) (length x.domain) (length (distrust_line x)) whole key h.domain.limit
  where
    within : (k n w : ℕ) → w ≡ 27 + k + n → k ≡ 64 → n ≤ 255 → w ≤ 346
    within k n w whole pk pn = omega arith

-- the value of a record is plain if its parts are UTF-8
plain_record : (k n : List ℕ) → IsUtf8 k → IsUtf8 n → IsPlain (object (member (codes "distrust") (string k) (member (codes "domain") (string n) no_members)))
plain_record k n pk pn = (ascii (codes "distrust") refl, pk, (refl, tt), (ascii (codes "domain") refl, pn, tt, tt))

-- the value of a record nests within the limit of JSON texts
shallow_record : (k n : List ℕ) → depth (object (member (codes "distrust") (string k) (member (codes "domain") (string n) no_members))) ≤ max_depth
shallow_record k n = omega arith

-- a record's line is a JSON text of its value
IsJson-distrust_line : (x : Distrust) → IsDistrust x → IsJson (distrust_line x) (distrust_tree x)
unfolding distrust_line
IsJson-distrust_line x h =
    IsJson-compact_text (distrust_tree x) (plain_record (encode_lower x.key.0) x.domain (utf8_digits x.key.0 h.key) (IsPlainText-domain x.domain h.domain).utf8)
    (shallow_record (encode_lower x.key.0) x.domain)

-- the value of a record says it
says_record : (x : Distrust) → IsDistrust x → SaysDistrust (distrust_tree x) x
says_record x h = record { key = refl; domain = refl; is = h }

-- a value says one record at most
one_record_said : (tree : Data) (x y : Distrust) → SaysDistrust tree x → SaysDistrust tree y → x ≡ y
one_record_said tree x y p q =
    let domains = one_text tree (codes "domain") x.domain y.domain p.domain q.domain in
    let keys = one_digest tree (codes "distrust") x.key.0 y.key.0 p.key q.key p.is.key q.is.key in
    λ i. record { domain = domains i; key = record { 0 = keys i } }

-- the value of a record's line says it
says_of_record : (bytes : List ℕ) (tree : Data) (x : Distrust) → IsJson bytes tree → IsRecord bytes x → SaysDistrust tree x
says_of_record bytes tree x json is =
    let both : Some tree ≡ Some (distrust_tree x) = sym json.1 ∙ ap read is.text ∙ (IsJson-distrust_line x is.is).1 in
    let same : tree ≡ distrust_tree x = unwrapped tree (distrust_tree x) both in
    subst (λ t. SaysDistrust t x) (sym same) (says_record x is.is)
  where
    unwrapped : (a b : Data) → Some a ≡ Some b → a ≡ b
    unwrapped a b e = cc

-- bytes whose value says no record are not a record's line
pub no_record_said : (bytes : List ℕ) (tree : Data) → IsJson bytes tree → ((x : Distrust) → SaysDistrust tree x → ⊥) → IsNoRecord bytes
no_record_said bytes tree json none = λ x is. none x (says_of_record bytes tree x json is)

-- bytes whose value says a record with another line are not a record's line
pub another_record : (bytes : List ℕ) (tree : Data) (y : Distrust) → IsJson bytes tree → SaysDistrust tree y → (distrust_line y ≡ bytes → ⊥) → IsNoRecord bytes
another_record bytes tree y json says other = λ x is.
    let same : y ≡ x = one_record_said tree y x says (says_of_record bytes tree x json is) in
    other (ap distrust_line same ∙ sym is.text)

-- if bytes within the bound are not a record's line, or memory ran out, they are refused
pub refused_record : (bytes : List ℕ) (e : LineError) → length bytes ≤ 346 → Unless e (IsNoRecord bytes) → RefusesRecord bytes e
refused_record bytes NotCanonical short h = (omega arith, h)
refused_record bytes TooLong short h = absurd h
refused_record bytes NoMemory short h = short

-- bytes that are not JSON text are not a record's line
pub no_record_parsed : (bytes : List ℕ) (e : LineError) → Unless e (IsNoJson bytes) → Unless e (IsNoRecord bytes)
no_record_parsed bytes NotCanonical h = λ x is. h (distrust_tree x) (subst (λ t. IsJson t (distrust_tree x)) (sym is.text) (IsJson-distrust_line x is.is))
no_record_parsed bytes TooLong h = h
no_record_parsed bytes NoMemory h = tt

-- bytes longer than the longest record's line are not a record's line
pub no_long_record : (bytes : List ℕ) → 346 < length bytes → IsNoRecord bytes
no_long_record bytes long = λ x is. let short = length-distrust_line x is.is in let same = ap length is.text in absurd (omega arith)
