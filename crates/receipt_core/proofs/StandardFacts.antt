-- Receipts, records of distrust, chains and sets, said of the definitions: a slip in one of these does not check.
use Rattle.std.proofs.Common.{◌≡◌, ℕ, ◌<◌, ◌++◌, List, [], ◌∷◌, length, get_or, Option, None, Some, codes, refl, sym, ap, ◌∙◌, arith, lit<, inl, inr}
use Rattle.std.specs.Prelude.{Contains}
use Rattle.std.specs.Ordering.{nat_cmp}
use Rattle.json.specs.Print.{escape_byte}
use Rattle.hex.specs.Hex.{encode_with}
use Rattle.sha2.specs.Sha256.{sha256}
use Rattle.sha2.proofs.Facts256.{length-sha256}
use Rattle.spiffe_name.specs.SpiffeId.{Id}
use Rattle.jwk_set.specs.Element.{key_id_of}
use Rattle.jwk_set.specs.declared.authority.KeyId.{KeyId}
use Rattle.jwk_set.specs.declared.authority.PublicKey.TheVariants.{Rsa}
use Rattle.jwk_set.specs.declared.authority.Authority.{Authority}
use Rattle.jwk_set.specs.declared.authority.Authority.TheVariants.{X509, Jwt}
use Rattle.bundle_doc.specs.Bundle.{Bundle, doc_id_of, canonical_text}
use Rattle.fed_config.specs.Configuration.{Configuration, ReachesFloor}
use Rattle.fed_config.specs.declared.floor.Floor.{Floor}
use Rattle.fed_config.specs.declared.relationship.Relationship.{Relationship}
use Rattle.fed_config.specs.declared.seed.Seed.{Seed}
use Rattle.receipt_core.specs.declared.distrust.Distrust.{Distrust}
use Rattle.receipt_core.specs.Receipt.{Receipt, Pair, line, distrust_line, need_of, offers_of}
use Rattle.receipt_core.specs.Rising.{with_item, with_items}
use Rattle.receipt_core.specs.Acceptance.{IsFitting, Vouches, distrust_of}
use Rattle.receipt_core.specs.Chain.{IsChain}
use Rattle.receipt_core.proofs.RisingFacts.{Has-from_contains}
use Rattle.fed_config.specs.Limits.{usual_limits}

-- ---- needs and offers

-- a document that has one JWT authority alone
abbrev signing : Bundle
signing = record { authorities = Jwt (codes "k") (Rsa (codes "AQ") (codes "Aw")) ∷ []; rank = None; hint = None }

-- a receipt of one domain from an endpoint of another
abbrev served : Receipt
served = record {
  domain = codes "b.example";
  endpoint = record { text = codes "spiffe://a.example/bundle"; domain = codes "a.example"; path = codes "/bundle" };
  document = signing;
  voucher = record { 0 = 1 ∷ [] };
  key = record { 0 = 2 ∷ [] };
}

-- what is needed is of the endpoint's trust domain, not of the one that is served
pub need_of_served : need_of served ≡ record { domain = codes "a.example"; document = record { 0 = 1 ∷ [] }; key = record { 0 = 2 ∷ [] } }
need_of_served = refl

-- a JWT authority vouches for nothing
pub offers_of_signing : offers_of (record { domain = codes "b.example"; document = signing }) ≡ []
offers_of_signing = refl

-- ---- lines

-- each member under its name, names in the order of their bytes, digests as lower-case digits
pub line_of_served : line (record served { document = record { authorities = []; rank = None; hint = None } })
    ≡ codes "{\"doc\":{\"keys\":[]},\"domain\":\"b.example\",\"endpoint\":\"spiffe://a.example/bundle\",\"key\":\"02\",\"voucher\":\"01\"}"
unfolding line escape_byte encode_with
line_of_served = refl

-- a record's line: the key in lower-case digits, then the domain
pub line_of_distrust : distrust_line (record { domain = codes "a.example"; key = record { 0 = 10 ∷ 255 ∷ [] } })
    ≡ codes "{\"distrust\":\"0aff\",\"domain\":\"a.example\"}"
unfolding distrust_line escape_byte encode_with
line_of_distrust = refl

-- ---- a domain a, which vouches for b, which vouches for c

-- an X.509 authority whose certificate is the bytes abc
abbrev abc : Authority
abc = X509 (Rsa (codes "AQ") (codes "Aw")) (codes "abc")

-- its key id
abbrev abc_key : KeyId
abc_key = record { 0 = sha256 (codes "abc") }

-- a document with that authority, which can vouch
abbrev vouching : Bundle
vouching = record { authorities = Jwt (codes "k") (Rsa (codes "AQ") (codes "Aw")) ∷ abc ∷ []; rank = None; hint = None }

-- a receipt of that document for a domain, from an endpoint of another one, which that document of the other proved
abbrev noted : List ℕ → List ℕ → Receipt
noted domain of = record {
  domain = domain;
  endpoint = record { text = codes "spiffe://x/bundle"; domain = of; path = codes "/bundle" };
  document = vouching;
  voucher = record { 0 = doc_id_of of vouching };
  key = abc_key;
}

-- a vouches for b
abbrev from_a : Receipt
from_a = noted (codes "b") (codes "a")

-- b vouches for c
abbrev from_b : Receipt
from_b = noted (codes "c") (codes "b")

-- a relationship that a receipt fits
abbrev relationship : Receipt → Relationship
relationship r = record { domain = r.domain; endpoint = r.endpoint; url = [] }

-- the document is configured for a
abbrev seed : Seed
seed = record { domain = codes "a"; document = vouching }

-- a configuration of both relationships and the seed
abbrev config : Configuration
config = record { relationships = relationship from_a ∷ relationship from_b ∷ []; seeds = seed ∷ []; floors = []; limits = usual_limits }

-- different letters
below : (x y : ℕ) → x < y → (x ∷ []) ≡ (y ∷ []) → ⊥
below x y less e = let same : x ≡ y = ap (λ xs. get_or xs 0 0) e in omega (arith, less, same)

-- ---- fitting

-- no floor is to be reached
no_floor : (r : Receipt) → ReachesFloor config r.domain r.document
no_floor r f has same = absurd (Has-from_contains [] f has)

-- a receipt fits by its domain and its endpoint
pub fits : IsFitting config from_b
fits = record { relationship = relationship from_b; has = (1, lit< tt, refl); domain = refl; endpoint = refl; reaches = no_floor from_b }

-- the relationship with the domain has another endpoint
pub of_another_endpoint : IsFitting config (noted (codes "b") (codes "b")) → ⊥
of_another_endpoint h = elim (Has-from_contains config.relationships h.relationship h.has) [
  | inl first ↦ below 97 98 (lit< tt) (ap (λ (x : Relationship). x.endpoint.domain) first ∙ ap (λ (x : Id). x.domain) h.endpoint)
  | inr later ↦ elim later [
    | inl second ↦ below 98 99 (lit< tt) (sym (ap (λ (x : Relationship). x.domain) second ∙ h.domain))
    | inr none ↦ absurd none
  ]
]

-- a relationship is with the domain that is served, not with the endpoint's
pub of_another_domain : IsFitting config (noted (codes "a") (codes "a")) → ⊥
of_another_domain h = elim (Has-from_contains config.relationships h.relationship h.has) [
  | inl first ↦ below 97 98 (lit< tt) (sym (ap (λ (x : Relationship). x.domain) first ∙ h.domain))
  | inr later ↦ elim later [
    | inl second ↦ below 97 99 (lit< tt) (sym (ap (λ (x : Relationship). x.domain) second ∙ h.domain))
    | inr none ↦ absurd none
  ]
]

-- ---- floors

-- c has the floor 7
abbrev raised : Configuration
raised = record config { floors = record { domain = codes "c"; sequence = 7 } ∷ [] }

-- the receipt from b, of a document with a sequence number
abbrev of_rank : Option ℕ → Receipt
of_rank rank = record from_b { document = record vouching { rank = rank } }

-- each floor of c is 7
seven : (f : Floor) → Contains raised.floors f → f.sequence ≡ 7
seven f has = elim (Has-from_contains raised.floors f has) [ inl first ↦ sym (ap (λ (g : Floor). g.sequence) first) | inr none ↦ absurd none ]

-- a document at its floor fits
pub at_its_floor : IsFitting raised (of_rank (Some 7))
at_its_floor = record {
  relationship = relationship from_b;
  has = (1, lit< tt, refl);
  domain = refl;
  endpoint = refl;
  reaches = λ f has same. (7, refl, let is : f.sequence ≡ 7 = seven f has in omega arith);
}

-- a document below its floor does not fit
pub below_its_floor : IsFitting raised (of_rank (Some 6)) → ⊥
below_its_floor h =
    let reached = h.reaches (record { domain = codes "c"; sequence = 7 }) (0, lit< tt, refl) refl in
    let six : reached.0 ≡ 6 = (let is = reached.1 in cc) in
    let least = reached.2 in
    absurd (omega arith)

-- a document without a sequence number is below each floor
pub without_a_number : IsFitting raised (of_rank None) → ⊥
without_a_number h = let reached = h.reaches (record { domain = codes "c"; sequence = 7 }) (0, lit< tt, refl) refl in let is = reached.1 in cc

-- a floor of one domain is not a floor of another
pub floor_of_another : IsFitting raised (noted (codes "b") (codes "a"))
floor_of_another = record {
  relationship = relationship from_a;
  has = (0, lit< tt, refl);
  domain = refl;
  endpoint = refl;
  reaches = λ f has same. elim (Has-from_contains raised.floors f has) [
    | inl first ↦ absurd (below 98 99 (lit< tt) (sym same ∙ sym (ap (λ (g : Floor). g.domain) first)))
    | inr none ↦ absurd none
  ];
}

-- ---- vouching

-- a document id is taken of the domain's name, a line feed and the canonical text
pub id_of_signing : doc_id_of (codes "a") signing
    ≡ sha256 (codes "a\n{\"keys\":[{\"e\":\"Aw\",\"kid\":\"k\",\"kty\":\"RSA\",\"n\":\"AQ\",\"use\":\"jwt-svid\"}]}")
unfolding escape_byte
id_of_signing = refl

-- the document under a domain
abbrev vouching_for : List ℕ → Pair
vouching_for domain = record { domain = domain; document = vouching }

-- the document vouches for a receipt if the key is not distrusted
vouches_under : (records : List Distrust) (domain of : List ℕ) → (Contains records (distrust_of of (noted domain of)) → ⊥)
    → Vouches records (vouching_for of) (noted domain of)
vouches_under records domain of trusted = record { endpoint = refl; voucher = refl; key = (1, abc, lit< tt, refl, refl); trusted = trusted }

-- no records have no record
none_has : (x : Distrust) → Contains [] x → ⊥
none_has x h = Has-from_contains [] x h

-- the configured document vouches if there are no records
pub vouches : Vouches [] (vouching_for (codes "a")) from_a
vouches = vouches_under [] (codes "b") (codes "a") (none_has _)

-- a record of another domain counts for nothing
pub distrusted_elsewhere : Vouches (distrust_of (codes "b") from_a ∷ []) (vouching_for (codes "a")) from_a
distrusted_elsewhere = vouches_under (distrust_of (codes "b") from_a ∷ []) (codes "b") (codes "a")
    (λ h. elim (Has-from_contains (distrust_of (codes "b") from_a ∷ []) (distrust_of (codes "a") from_a) h) [
      | inl same ↦ below 97 98 (lit< tt) (sym (ap (λ (x : Distrust). x.domain) same))
      | inr none ↦ absurd none
    ])

-- the key is distrusted in the domain of the endpoint
pub distrusted : Vouches (distrust_of (codes "a") from_a ∷ []) (vouching_for (codes "a")) from_a → ⊥
distrusted h = h.trusted (0, lit< tt, refl)

-- the document is under another domain
pub of_the_served : Vouches [] (vouching_for (codes "b")) from_a → ⊥
of_the_served h = below 97 98 (lit< tt) (sym h.endpoint)

-- another document has the key, but is not the one that is named
pub another_document : Vouches [] (vouching_for (codes "a")) (record from_a { voucher = record { 0 = [] } }) → ⊥
another_document h = let size = length-sha256 (codes "a" ++ 10 ∷ [] ++ canonical_text vouching) in let e = ap length h.voucher in omega (arith, size, e)

-- a JWT authority has no key id
pub no_key : Vouches [] (record { domain = codes "a"; document = signing }) (record from_a { voucher = record { 0 = doc_id_of (codes "a") signing } }) → ⊥
no_key h = elim (Has-from_contains signing.authorities h.key.1 (h.key.0, h.key.2, h.key.3)) [
  | inl first ↦ (let none = ap key_id_of first in let some = h.key.4 in cc)
  | inr none ↦ absurd none
]

-- ---- chains

-- a receipt for which the seed vouches is a chain
pub one_receipt : IsChain config [] (from_a ∷ [])
one_receipt = record {
  some = lit< tt;
  seed = seed;
  configured = (0, lit< tt, refl);
  leads = (record { relationship = relationship from_a; has = (0, lit< tt, refl); domain = refl; endpoint = refl; reaches = no_floor from_a }, vouches, refl);
}

-- the document of a receipt vouches for the next
pub two_receipts : IsChain config [] (from_a ∷ from_b ∷ [])
two_receipts = record {
  some = lit< tt;
  seed = seed;
  configured = (0, lit< tt, refl);
  leads = (
    record { relationship = relationship from_a; has = (0, lit< tt, refl); domain = refl; endpoint = refl; reaches = no_floor from_a },
    vouches,
    (fits, vouches_under [] (codes "c") (codes "b") (none_has _), refl),
  );
}

-- no receipts do not make a chain
pub no_receipt : IsChain config [] [] → ⊥
no_receipt h = absurd (omega (arith, h.some))

-- no configured document is of the endpoint's domain
pub without_the_first : IsChain config [] (from_b ∷ []) → ⊥
without_the_first h = elim (Has-from_contains config.seeds h.seed h.configured) [
  | inl first ↦ below 97 98 (lit< tt) (ap (λ (x : Seed). x.domain) first ∙ h.leads.1.endpoint)
  | inr none ↦ absurd none
]

-- nothing vouches if no document is configured
pub without_a_seed : IsChain (record { relationships = config.relationships; seeds = []; floors = []; limits = usual_limits }) [] (from_a ∷ []) → ⊥
without_a_seed h = Has-from_contains [] h.seed h.configured

-- no receipt fits if there is no relationship
pub without_a_relationship : IsChain (record { relationships = []; seeds = seed ∷ []; floors = []; limits = usual_limits }) [] (from_a ∷ []) → ⊥
without_a_relationship h = Has-from_contains [] h.leads.0.relationship h.leads.0.has

-- a record stops a chain that uses its key
pub distrusted_on_the_way : IsChain config (distrust_of (codes "b") from_b ∷ []) (from_a ∷ from_b ∷ []) → ⊥
distrusted_on_the_way h = h.leads.2.1.trusted (0, lit< tt, refl)

-- ---- strictly sorted lists

-- an item goes to its place
pub between : with_item nat_cmp 5 (3 ∷ 7 ∷ []) ≡ 3 ∷ 5 ∷ 7 ∷ []
between = refl

-- one that is there already remains
pub there_already : with_item nat_cmp 7 (3 ∷ 7 ∷ []) ≡ 3 ∷ 7 ∷ []
there_already = refl

-- one list for a set, whatever the order
pub joined : with_items nat_cmp (7 ∷ 3 ∷ 7 ∷ []) (5 ∷ []) ≡ 3 ∷ 5 ∷ 7 ∷ []
joined = refl
