-- The lines of receipts and of records of distrust, piece by piece, and their orders.
use Rattle.std.proofs.Common.{◌≡◌, ℕ, ◌<◌, List, [], ◌∷◌, ◌++◌, true, codes, refl, ap, sym, ◌∙◌, subst, arith, append_assoc}
use Rattle.std.proofs.lemmas.Bool.Decides.{nat_tests}
use Rattle.std.proofs.lemmas.Map.Lookups.{exact_bytes}
use Rattle.std.specs.declared.cmp.Ordering.{Ordering}
use Rattle.std.specs.declared.cmp.Ordering.TheVariants.{Less, Equal}
use Rattle.std.specs.Ordering.{nat_cmp, ordering_then}
use Rattle.std.specs.Cmp.{tied_itself}
use Rattle.std.specs.Cmp.Lexicographic.{slice_cmp, nat_list_cmp_total}
use Rattle.std.specs.List.{All, AllByRecursion}
use Rattle.std.proofs.lemmas.List.Elements.{All-weaker, All-head, All-tail, All-append, All-cons, All-nil, All-from_recursion}
use Rattle.hex.specs.Hex.{encode_lower}
use Rattle.json.specs.Print.{escape, escape_byte}
use Rattle.serde_json.specs.Data.{Data, string, array, object, Members, member, no_members}
use Rattle.serde_json.specs.Written.{compact_text}
use Rattle.spiffe_name.specs.Bytes.{is_domain_byte, is_segment_byte}
use Rattle.spiffe_name.specs.TrustDomain.{IsDomainText}
use Rattle.spiffe_name.specs.SpiffeId.{Id, IsId, IsSegment, path_of_segments, scheme}
use Rattle.spiffe_name.proofs.PlainFacts.{IsPlainText-domain, IsPlainText-id}
use Rattle.spiffe_name.proofs.IdFacts.{one_value}
use Rattle.jwk_set.proofs.EscapeFacts.{escape_itself}
use Rattle.bundle_doc.specs.Bundle.{Bundle, IsBundle, document_tree, canonical_text, with_number, trees}
use Rattle.bundle_doc.proofs.BundleFacts.{IsPlain-document_tree, one_text}
use Rattle.receipt_core.specs.Receipt.{Receipt, IsReceipt, line, receipt_cmp, key_cmp, triple_cmp, IsDistrust, distrust_line, distrust_cmp}
use Rattle.receipt_core.specs.Parts.{pieces, distrust_pieces, written_receipt, parts_cmp}
use Rattle.receipt_core.specs.declared.distrust.Distrust.{Distrust}
use Rattle.receipt_core.specs.declared.triple.Triple.{Triple}
use Rattle.receipt_core.proofs.OrderFacts.{Above, Apart, behind, first_apart, first_marked, then_assoc, then_equal, both_equal}
use Rattle.receipt_core.proofs.BracketFacts.{apart_objects}
use Rattle.receipt_core.proofs.HexFacts.{encode_lower-order, Above-encode_lower, unescaped-encode_lower}

-- ---- the texts between quotation marks

-- a byte that a segment may have is above the quotation mark
segment_above : (b : ℕ) → is_segment_byte b ≡ true → 34 < b
segment_above b h = grind (arith, nat_tests)

-- a byte that a domain name may have is above the quotation mark
domain_above : (b : ℕ) → is_domain_byte b ≡ true → 34 < b
domain_above b h = grind (arith, nat_tests)

-- so is each byte of a domain name
all_domain : (text : List ℕ) → IsDomainText text → All (λ b. 34 < b) text
all_domain text h = All-weaker (λ b. is_domain_byte b ≡ true) (λ b. 34 < b) domain_above text h.bytes

-- so is each byte of a path
all_segments : (segments : List (List ℕ)) → AllByRecursion IsSegment segments → All (λ b. 34 < b) (path_of_segments segments)
all_segments [] h = All-nil (λ b. 34 < b)
all_segments (s ∷ segments) h =
    All-append (λ b. 34 < b) (47 ∷ s) (path_of_segments segments)
    (All-cons (λ b. 34 < b) 47 s (omega arith) (All-weaker (λ b. is_segment_byte b ≡ true) (λ b. 34 < b) segment_above s h.0.bytes))
    (all_segments segments h.1)

-- so is each byte of the scheme
all_scheme : All (λ b. 34 < b) scheme
all_scheme = All-from_recursion (λ b. 34 < b) scheme (
  omega arith,
  (
    omega arith,
    (omega arith, (omega arith, (omega arith, (omega arith, (omega arith, (omega arith, (omega arith, tt))))))),
  ),
)

-- what holds at each index holds by recursion
by_recursion : (P : ℕ → Type 0) (xs : List ℕ) → All P xs → AllByRecursion P xs
by_recursion P [] h = tt
by_recursion P (x ∷ xs) h = (All-head P x xs h, by_recursion P xs (All-tail P x xs h))

-- each byte of a domain name is above the quotation mark, so lines that have one there keep its
-- order
Above-domain : (text : List ℕ) → IsDomainText text → Above 34 text
Above-domain text h = by_recursion (λ b. 34 < b) text (all_domain text h)

-- the same for an ID
Above-id : (id : Id) → IsId id → Above 34 id.text
Above-id id h =
    let path : All (λ b. 34 < b) id.path = subst (All (λ b. 34 < b)) (sym h.is_path.whole) (all_segments h.is_path.segments h.is_path.each) in
    let whole : All (λ b. 34 < b) (scheme ++ (id.domain ++ id.path)) =
    All-append (λ b. 34 < b) scheme (id.domain ++ id.path) all_scheme (All-append (λ b. 34 < b) id.domain id.path (all_domain id.domain h.is_domain) path) in
    by_recursion (λ b. 34 < b) id.text (subst (All (λ b. 34 < b)) (sym h.whole) whole)

-- ---- the lines

-- the compact text of a receipt's members is its pieces if no text needs an escape
tree_text : (d : Data) (n e k v : List ℕ) → escape n ≡ n → escape e ≡ e → escape k ≡ k → escape v ≡ v
    → compact_text
    (object (member (codes "doc") d
    (member (codes "domain") (string n)
    (member (codes "endpoint") (string e)
    (member (codes "key") (string k) (member (codes "voucher") (string v) no_members))))))
    ≡ pieces (compact_text d) n e k v
unfolding pieces escape_byte
tree_text d n e k v p q r s = simp (p, q, r, s, append_assoc)

-- a text that grows by one piece after another is the whole line
pub pieces_grown : (d n e k v : List ℕ)
    → (((((((((([] ++ codes "{\"doc\":") ++ d) ++ codes
    ",\"domain\":\"") ++ n) ++ codes "\",\"endpoint\":\"") ++ e) ++ codes "\",\"key\":\"") ++ k) ++ codes "\",\"voucher\":\"") ++ v) ++ codes "\"}"
    ≡ pieces d n e k v
unfolding pieces
pieces_grown d n e k v = simp append_assoc

-- the same for the texts that `write_receipt` has one after another
pub pieces_pushed : (t0 t1 t2 t3 t4 t5 t6 t7 t8 t9 t10 t11 d n e k v : List ℕ) → t0 ≡ [] → t1 ≡ t0 ++ codes "{\"doc\":"
    → t2 ≡ t1 ++ d → t3 ≡ t2 ++ codes ",\"domain\":\"" → t4 ≡ t3 ++ n
    → t5 ≡ t4 ++ codes "\",\"endpoint\":\"" → t6 ≡ t5 ++ e → t7 ≡ t6 ++ codes "\",\"key\":\"" → t8 ≡ t7 ++ k
    → t9 ≡ t8 ++ codes "\",\"voucher\":\"" → t10 ≡ t9 ++ v → t11 ≡ t10 ++ codes "\"}"
    → t11 ≡ pieces d n e k v
pieces_pushed t0 t1 t2 t3 t4 t5 t6 t7 t8 t9 t10 t11 d n e k v e0 e1 e2 e3 e4 e5 e6 e7 e8 e9 e10 e11 =
    rw (e11, e10, e9, e8, e7, e6, e5, e4, e3, e2, e1, e0) (pieces_grown d n e k v)

-- the same pieces, bracketed from the left and from the right
regrouped : (a d b n f e g k h v z : List ℕ)
    → (((((a ++ d) ++ (b ++ n)) ++ (f ++ e)) ++ (g ++ k)) ++ (h ++ v)) ++ z
    ≡ a ++ (d ++ (b ++ (n ++ (f ++ (e ++ (g ++ (k ++ (h ++ (v ++ z)))))))))
regrouped a d b n f e g k h v z = simp append_assoc

-- a text whose pieces are taken off from both ends, as `split_line` does, is the whole line
pub pieces_split : (t r1 r2 r3 r4 r5 d n e k v : List ℕ)
    → t ≡ r1 ++ codes "\"}" → r1 ≡ r2 ++ (codes "\",\"voucher\":\"" ++ v) → r2 ≡ r3 ++ (codes "\",\"key\":\"" ++ k)
    → r3 ≡ r4 ++ (codes "\",\"endpoint\":\"" ++ e) → r4 ≡ r5 ++ (codes ",\"domain\":\"" ++ n) → r5 ≡ codes "{\"doc\":" ++ d → t ≡ pieces d n e k v
unfolding pieces
pieces_split t r1 r2 r3 r4 r5 d n e k v e1 e2 e3 e4 e5 e6 =
    rw (e1, e2, e3, e4, e5, e6)
    (regrouped (codes "{\"doc\":") d
    (codes ",\"domain\":\"") n (codes "\",\"endpoint\":\"") e (codes "\",\"key\":\"") k (codes "\",\"voucher\":\"") v (codes "\"}"))

-- the line of a receipt is its pieces
pub line_text : (r : Receipt) → IsReceipt r → line r ≡ written_receipt r
unfolding line
line_text r h =
    tree_text (document_tree r.document) r.domain r.endpoint.text (encode_lower r.key.0) (encode_lower r.voucher.0)
    (escape_itself r.domain (IsPlainText-domain r.domain h.domain).unescaped)
    (escape_itself r.endpoint.text (IsPlainText-id r.endpoint h.endpoint).unescaped)
    (escape_itself (encode_lower r.key.0) (unescaped-encode_lower r.key.0 h.key.octets))
    (escape_itself (encode_lower r.voucher.0) (unescaped-encode_lower r.voucher.0 h.voucher.octets))

-- the compact text of a record's members is its pieces if no text needs an escape
distrust_tree_text : (k n : List ℕ) → escape k ≡ k → escape n ≡ n
    → compact_text (object (member (codes "distrust") (string k) (member (codes "domain") (string n) no_members))) ≡ distrust_pieces k n
unfolding distrust_pieces escape_byte
distrust_tree_text k n p q = simp (p, q, append_assoc)

-- the texts that `write_distrust` has one after another end as the whole line
pub distrust_pushed : (t0 t1 t2 t3 t4 t5 k n : List ℕ) → t0 ≡ []
    → t1 ≡ t0 ++ codes
    "{\"distrust\":\"" → t2 ≡ t1 ++ k → t3 ≡ t2 ++ codes "\",\"domain\":\"" → t4 ≡ t3 ++ n → t5 ≡ t4 ++ codes "\"}"
    → t5 ≡ distrust_pieces k n
unfolding distrust_pieces
distrust_pushed t0 t1 t2 t3 t4 t5 k n e0 e1 e2 e3 e4 e5 = rw (e5, e4, e3, e2, e1, e0) (simp append_assoc)

-- the line of a record is its pieces
pub distrust_line_text : (x : Distrust) → IsDistrust x → distrust_line x ≡ distrust_pieces (encode_lower x.key.0) x.domain
unfolding distrust_line
distrust_line_text x h =
    distrust_tree_text (encode_lower x.key.0) x.domain
    (escape_itself (encode_lower x.key.0) (unescaped-encode_lower x.key.0 h.key.octets))
    (escape_itself x.domain (IsPlainText-domain x.domain h.domain).unescaped)

-- ---- their orders

-- what follows the key in a line
abbrev behind_key : List ℕ → List ℕ
behind_key v = codes ",\"voucher\":\"" ++ (v ++ 34 ∷ 125 ∷ [])

-- what follows the endpoint in a line
abbrev behind_endpoint : List ℕ → List ℕ → List ℕ
behind_endpoint k v = codes ",\"key\":\"" ++ (k ++ 34 ∷ behind_key v)

-- what follows the domain in a line
abbrev behind_domain : List ℕ → List ℕ → List ℕ → List ℕ
behind_domain e k v = codes ",\"endpoint\":\"" ++ (e ++ 34 ∷ behind_endpoint k v)

-- what follows the document in a line
abbrev behind_document : List ℕ → List ℕ → List ℕ → List ℕ → List ℕ
behind_document n e k v = codes ",\"domain\":\"" ++ (n ++ 34 ∷ behind_domain e k v)

-- texts after one label, each with a quotation mark at its end, decide the order before what
-- follows them
labelled : (label x y u v : List ℕ) (o : Ordering) → Above 34 x → Above 34 y → slice_cmp nat_cmp u v ≡ o
    → slice_cmp nat_cmp (label ++ (x ++ 34 ∷ u)) (label ++ (y ++ 34 ∷ v)) ≡ ordering_then (slice_cmp nat_cmp x y) o
labelled label x y u v o p q h = behind label (x ++ 34 ∷ u) (y ++ 34 ∷ v) ∙ first_marked 34 x y u v p q ∙ ap (ordering_then (slice_cmp nat_cmp x y)) h

-- lines are ordered by their pieces in turn
pieces_order : (d n e k v d' n' e' k' v' : List ℕ) → Apart d d' → Above 34 n → Above 34 n' → Above 34 e → Above 34 e'
    → Above 34 k → Above 34 k' → Above 34 v → Above 34 v'
    → slice_cmp nat_cmp (pieces d n e k v) (pieces d' n' e' k' v')
    ≡ ordering_then (slice_cmp nat_cmp d d')
    (ordering_then (slice_cmp nat_cmp n n')
    (ordering_then (slice_cmp nat_cmp e e') (ordering_then (slice_cmp nat_cmp k k') (slice_cmp nat_cmp v v'))))
unfolding pieces
pieces_order d n e k v d' n' e' k' v' apart pn pn' pe pe' pk pk' pv pv' =
    behind (codes "{\"doc\":") (d ++ behind_document n e k v) (d' ++ behind_document n' e' k' v')
    ∙ first_apart d d' (behind_document n e k v) (behind_document n' e' k' v') apart
    ∙ ap (ordering_then (slice_cmp nat_cmp d d'))
    (labelled (codes ",\"domain\":\"") n n' (behind_domain e k v) (behind_domain e' k' v') _ pn pn'
    (labelled (codes ",\"endpoint\":\"") e e' (behind_endpoint k v) (behind_endpoint k' v') _ pe pe'
    (labelled (codes ",\"key\":\"") k k' (behind_key v) (behind_key v') _ pk pk'
    (labelled (codes ",\"voucher\":\"") v v' (125 ∷ []) (125 ∷ []) Equal pv pv' refl ∙ then_equal (slice_cmp nat_cmp v v')))))

-- the members of a document's value
abbrev members_of : Bundle → Members
members_of b = member (codes "keys") (array (trees b.authorities))
    (with_number (codes "spiffe_refresh_hint") b.hint (with_number (codes "spiffe_sequence") b.rank no_members))

-- no canonical text is a proper beginning of another, so it decides the order before what follows
-- it
Apart-documents : (b c : Bundle) → IsBundle b → IsBundle c → Apart (canonical_text b) (canonical_text c)
Apart-documents b c p q = apart_objects (members_of b) (members_of c) (IsPlain-document_tree b p) (IsPlain-document_tree c q)

-- five orders in turn, bracketed as `parts_cmp` has them
regroup : (d n e k v : Ordering) → ordering_then d (ordering_then n (ordering_then e (ordering_then k v)))
    ≡ ordering_then d (ordering_then (ordering_then n e) (ordering_then k v))
regroup d n e k v = ap (ordering_then d) (sym (then_assoc n e (ordering_then k v)))

-- receipts are in the order of their parts
pub receipt_order : (r s : Receipt) → IsReceipt r → IsReceipt s → receipt_cmp r s ≡ parts_cmp r s
receipt_order r s p q =
    (λ i. slice_cmp nat_cmp (line_text r p i) (line_text s q i))
    ∙ pieces_order (canonical_text r.document) r.domain r.endpoint.text (encode_lower r.key.0) (encode_lower r.voucher.0)
    (canonical_text s.document) s.domain s.endpoint.text (encode_lower s.key.0) (encode_lower s.voucher.0)
    (Apart-documents r.document s.document p.document q.document)
    (Above-domain r.domain p.domain) (Above-domain s.domain q.domain)
    (Above-id r.endpoint p.endpoint) (Above-id s.endpoint q.endpoint)
    (Above-encode_lower r.key.0 p.key.octets) (Above-encode_lower s.key.0 q.key.octets)
    (Above-encode_lower r.voucher.0 p.voucher.octets) (Above-encode_lower s.voucher.0 q.voucher.octets)
    ∙ regroup (slice_cmp nat_cmp (canonical_text r.document) (canonical_text s.document))
    (slice_cmp nat_cmp r.domain s.domain) (slice_cmp nat_cmp r.endpoint.text s.endpoint.text)
    (slice_cmp nat_cmp (encode_lower r.key.0) (encode_lower s.key.0))
    (slice_cmp nat_cmp (encode_lower r.voucher.0) (encode_lower s.voucher.0))
    ∙ (λ i. ordering_then (slice_cmp nat_cmp (canonical_text r.document) (canonical_text s.document))
    (ordering_then (ordering_then (slice_cmp nat_cmp r.domain s.domain) (slice_cmp nat_cmp r.endpoint.text s.endpoint.text))
    (ordering_then (encode_lower-order r.key.0 s.key.0 p.key.octets q.key.octets i)
    (encode_lower-order r.voucher.0 s.voucher.0 p.voucher.octets q.voucher.octets i))))

-- records' lines are ordered by their key ids and then by their domains
distrust_pieces_order : (k n k' n' : List ℕ) → Above 34 k → Above 34 k' → Above 34 n → Above 34 n'
    → slice_cmp nat_cmp (distrust_pieces k n) (distrust_pieces k' n') ≡ ordering_then (slice_cmp nat_cmp k k') (slice_cmp nat_cmp n n')
unfolding distrust_pieces
distrust_pieces_order k n k' n' pk pk' pn pn' =
    labelled (codes "{\"distrust\":\"") k k' (codes ",\"domain\":\"" ++ (n ++ 34 ∷ 125 ∷ [])) (codes ",\"domain\":\"" ++ (n' ++ 34 ∷ 125 ∷ [])) _ pk pk'
    (labelled (codes ",\"domain\":\"") n n' (125 ∷ []) (125 ∷ []) Equal pn pn' refl ∙ then_equal (slice_cmp nat_cmp n n'))

-- records are in the order of their lines
pub distrust_order : (x y : Distrust) → IsDistrust x → IsDistrust y → slice_cmp nat_cmp (distrust_line x) (distrust_line y) ≡ distrust_cmp x y
distrust_order x y p q =
    (λ i. slice_cmp nat_cmp (distrust_line_text x p i) (distrust_line_text y q i))
    ∙ distrust_pieces_order (encode_lower x.key.0) x.domain (encode_lower y.key.0) y.domain
    (Above-encode_lower x.key.0 p.key.octets) (Above-encode_lower y.key.0 q.key.octets) (Above-domain x.domain p.domain) (Above-domain y.domain q.domain)
    ∙ ap (λ o. ordering_then o (slice_cmp nat_cmp x.domain y.domain)) (encode_lower-order x.key.0 y.key.0 p.key.octets q.key.octets)

-- the first letter after the bracket decides: a record's line is below a receipt's
record_pieces_first : (k n d m e j v : List ℕ) → slice_cmp nat_cmp (distrust_pieces k n) (pieces d m e j v) ≡ Less
unfolding distrust_pieces pieces
record_pieces_first k n d m e j v = refl

-- a record's line comes before each receipt's
pub record_first : (x : Distrust) (r : Receipt) → IsDistrust x → IsReceipt r → slice_cmp nat_cmp (distrust_line x) (line r) ≡ Less
record_first x r p q =
    (λ i. slice_cmp nat_cmp (distrust_line_text x p i) (line_text r q i))
    ∙ record_pieces_first (encode_lower x.key.0) x.domain (canonical_text r.document) r.domain r.endpoint.text (encode_lower r.key.0) (encode_lower r.voucher.0)

-- ---- what the orders do not distinguish is the same

-- triples that the order does not distinguish are equal
pub one_triple : (a b : Triple) → triple_cmp a b ≡ Equal → a ≡ b
one_triple a b h =
    let front = both_equal (slice_cmp nat_cmp a.domain b.domain) _ h in
    let back = both_equal (slice_cmp nat_cmp a.document.0 b.document.0) _ front.1 in
    let domains : a.domain ≡ b.domain = exact_bytes a.domain b.domain front.0 in
    let documents : a.document.0 ≡ b.document.0 = exact_bytes a.document.0 b.document.0 back.0 in
    let keys : a.key.0 ≡ b.key.0 = exact_bytes a.key.0 b.key.0 back.1 in
    λ i. record { domain = domains i; document = record { 0 = documents i }; key = record { 0 = keys i } }

-- records that the order does not distinguish are equal
pub one_distrust : (x y : Distrust) → distrust_cmp x y ≡ Equal → x ≡ y
one_distrust x y h =
    let parts = both_equal (key_cmp x.key y.key) _ h in
    let keys : x.key.0 ≡ y.key.0 = exact_bytes x.key.0 y.key.0 parts.0 in
    let domains : x.domain ≡ y.domain = exact_bytes x.domain y.domain parts.1 in
    λ i. record { domain = domains i; key = record { 0 = keys i } }

-- receipts whose parts the order does not distinguish are equal
one_of_parts : (r s : Receipt) → IsReceipt r → IsReceipt s → parts_cmp r s ≡ Equal → r ≡ s
one_of_parts r s p q h =
    let front = both_equal (slice_cmp nat_cmp (canonical_text r.document) (canonical_text s.document)) _ h in
    let behind_document = both_equal (ordering_then (slice_cmp nat_cmp r.domain s.domain) (slice_cmp nat_cmp r.endpoint.text s.endpoint.text)) _ front.1 in
    let names = both_equal (slice_cmp nat_cmp r.domain s.domain) _ behind_document.0 in
    let digests = both_equal (key_cmp r.key s.key) _ behind_document.1 in
    let documents : r.document ≡ s.document = one_text r.document s.document p.document q.document (exact_bytes _ _ front.0) in
    let domains : r.domain ≡ s.domain = exact_bytes r.domain s.domain names.0 in
    let endpoints : r.endpoint ≡ s.endpoint = one_value r.endpoint s.endpoint p.endpoint q.endpoint (exact_bytes r.endpoint.text s.endpoint.text names.1) in
    let keys : r.key.0 ≡ s.key.0 = exact_bytes r.key.0 s.key.0 digests.0 in
    let vouchers : r.voucher.0 ≡ s.voucher.0 = exact_bytes r.voucher.0 s.voucher.0 digests.1 in
    λ i. record { domain = domains i; endpoint = endpoints i; document = documents i; voucher = record { 0 = vouchers i }; key = record { 0 = keys i } }

-- receipts that the order does not distinguish are equal
pub one_receipt : (r s : Receipt) → IsReceipt r → IsReceipt s → receipt_cmp r s ≡ Equal → r ≡ s
one_receipt r s p q h = one_of_parts r s p q (sym (receipt_order r s p q) ∙ h)

-- receipts with one line are equal, as `laws::lines` says
pub one_line : (r s : Receipt) → IsReceipt r → IsReceipt s → line r ≡ line s → r ≡ s
one_line r s p q e = one_receipt r s p q (ap (slice_cmp nat_cmp (line r)) (sym e) ∙ tied_itself nat_list_cmp_total (line r))

-- records with one line are equal, as `laws::lines` says
pub one_record : (x y : Distrust) → IsDistrust x → IsDistrust y → distrust_line x ≡ distrust_line y → x ≡ y
one_record x y p q e =
    one_distrust x y (sym (distrust_order x y p q) ∙ ap (slice_cmp nat_cmp (distrust_line x)) (sym e) ∙ tied_itself nat_list_cmp_total (distrust_line x))
