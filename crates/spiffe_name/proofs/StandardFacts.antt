-- Names and IDs, and texts that are neither, from SPIFFE-ID, sections 2 to 2.3, tried on the
-- definitions: a slip there does not check.
use Rattle.std.proofs.Common.{◌≡◌, ℕ, ◌<◌, ◌≤◌, List, [], ◌∷◌, ◌++◌, inl, inr, Bool, true, false, refl, codes, length, take, slice_index, lit<, lit≤}
use Rattle.std.specs.List.{list_all}
use Rattle.std.proofs.lemmas.List.Sums.{AllPass-from_list_all}
use Rattle.spiffe_name.specs.Bytes.{is_domain_byte, is_segment_byte, is_not_slash, EmptyOrSlash, FirstFails}
use Rattle.spiffe_name.specs.TrustDomain.{IsDomainText, RefusesDomain}
use Rattle.spiffe_name.specs.SpiffeId.{IsSegment, IsIdText, HasParts, RefusesId, is_empty_or_modifier, scheme}
use Rattle.spiffe_name.specs.declared.error.NameError.TheVariants.{Empty, BadDomainByte, BadPath}

-- ---- trust domain names

-- a domain name, from its length and a test of its bytes that computes
domain_of : (text : List ℕ) → 0 < length text → length text ≤ 255 → list_all is_domain_byte text ≡ true → IsDomainText text
domain_of text some limit all = record { some = some; limit = limit; bytes = AllPass-from_list_all is_domain_byte text all }

-- a domain name of the standard's examples
pub staging : IsDomainText (codes "staging.example.com")
staging = domain_of _ (lit< tt) (lit≤ tt) refl

-- a domain name may have the first and the last letter and digit, and each mark
pub each_kind_of_byte : IsDomainText (codes "az09.-_")
each_kind_of_byte = domain_of _ (lit< tt) (lit≤ tt) refl

-- the empty text is refused as empty
pub no_name : RefusesDomain (codes "") Empty
no_name = refl

-- the first byte that fails a test, from tests that compute
fails_at : (test : ℕ → Bool) (text : List ℕ) (n : ℕ) → n < length text → list_all test (take n text) ≡ true
    → test (slice_index text n) ≡ false → FirstFails test text n
fails_at test text n within before fails = record { within = within; before = AllPass-from_list_all test (take n text) before; fails = fails }

-- an upper-case letter is refused at its place
pub upper_case : RefusesDomain (codes "Example.org") (BadDomainByte 0)
upper_case = (lit≤ tt, fails_at is_domain_byte _ 0 (lit< tt) refl refl)

-- a domain name has no port: the colon is refused at its place
pub port : RefusesDomain (codes "a.example:8443") (BadDomainByte 9)
port = (lit≤ tt, fails_at is_domain_byte _ 9 (lit< tt) refl refl)

-- ---- IDs

-- a segment, from tests that compute
segment_of : (text : List ℕ) → list_all is_segment_byte text ≡ true → is_empty_or_modifier text ≡ false → IsSegment text
segment_of text all named = record { bytes = AllPass-from_list_all is_segment_byte text all; named = named }

-- an ID of the standard's examples is cut into this domain and this path
pub payments : IsIdText (codes "spiffe://staging.example.com/payments/mysql") (codes "staging.example.com") (codes "/payments/mysql")
payments = record {
  whole = refl;
  limit = lit≤ tt;
  is_domain = staging;
  is_path = record {
    segments = codes "payments" ∷ codes "mysql" ∷ [];
    each = (segment_of _ refl refl, (segment_of _ refl refl, tt));
    whole = refl;
  };
}

-- an ID may have no path
pub no_path : IsIdText (codes "spiffe://staging.example.com") (codes "staging.example.com") (codes "")
no_path = record { whole = refl; limit = lit≤ tt; is_domain = staging; is_path = record { segments = []; each = tt; whole = refl } }

-- three dots are a segment
pub three_dots : IsSegment (codes "...")
three_dots = segment_of _ refl refl

-- two dots are not a segment
pub two_dots : IsSegment (codes "..") → ⊥
two_dots h = let named = h.named in cc

-- no segment is empty
pub empty_segment : IsSegment (codes "") → ⊥
empty_segment h = let named = h.named in cc

-- the parts of a text that may not be an ID, from tests that compute
parts_of : (text domain path : List ℕ) → text ≡ scheme ++ (domain ++ path) → length text ≤ 2048
    → list_all is_not_slash domain ≡ true → EmptyOrSlash path → HasParts text domain path
parts_of text domain path whole limit no_slash slash =
    record {
      limit = limit;
      whole = whole;
      no_slash = AllPass-from_list_all is_not_slash domain no_slash;
      slash =
          slash;
    }

-- an ID has no user: the at sign is refused at its place in the whole text
pub user : RefusesId (codes "spiffe://user@example.com/a") (BadDomainByte 13)
user = (
  4,
  (
    refl,
    (
      codes "user@example.com",
      codes "/a",
      (parts_of _ _ _ refl (lit≤ tt) refl refl, (lit≤ tt, fails_at is_domain_byte _ 4 (lit< tt) refl refl)),
    ),
  ),
)

-- an ID without a domain is refused as empty
pub no_domain : RefusesId (codes "spiffe:///x") Empty
no_domain = inr (codes "", codes "/x", (parts_of _ _ _ refl (lit≤ tt) refl refl, refl))

-- a slash at the end is refused for the empty segment after it, at the place of its start
pub trailing_slash : RefusesId (codes "spiffe://example.com/") (BadPath 21)
trailing_slash = (
  codes "example.com",
  codes "/",
  1,
  (
    parts_of _ _ _ refl (lit≤ tt) refl refl,
    domain_of _ (lit< tt) (lit≤ tt) refl,
    record {
      front = [];
      each = tt;
      segment = [];
      rest = [];
      whole = refl;
      no_slash = AllPass-from_list_all is_not_slash [] refl;
      slash = tt;
      offset = 0;
      fault = inr (refl, refl);
      counted = refl;
    },
    refl,
  ),
)

-- an ID has no percent-encoding: the percent sign is refused at its place in the whole text
pub percent : RefusesId (codes "spiffe://example.com/a%62") (BadPath 22)
percent = (
  codes "example.com",
  codes "/a%62",
  2,
  (
    parts_of _ _ _ refl (lit≤ tt) refl refl,
    domain_of _ (lit< tt) (lit≤ tt) refl,
    record {
      front = [];
      each = tt;
      segment = codes "a%62";
      rest = [];
      whole = refl;
      no_slash = AllPass-from_list_all is_not_slash (codes "a%62") refl;
      slash = tt;
      offset = 1;
      fault = inl (fails_at is_segment_byte _ 1 (lit< tt) refl refl);
      counted = refl;
    },
    refl,
  ),
)
