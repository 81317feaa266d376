-- Names and IDs are plain texts.
use Rattle.std.proofs.Common.{◌≡◌, ℕ, ◌<◌, true, List, [], ◌∷◌, ◌++◌, refl, sym, subst, arith}
use Rattle.std.specs.List.{AllByRecursion}
use Rattle.std.proofs.lemmas.Bool.Decides.{nat_tests}
use Rattle.std.proofs.lemmas.List.Elements.{All-nil, All-cons, All-append, All-weaker, All-from_recursion}
use Rattle.std.specs.List.{All}
use Rattle.std.proofs.lemmas.Str.{IsUtf8-from_ascii}
use Rattle.std.proofs.lemmas.Str.Ascii.{IsAscii-from_all}
use Rattle.spiffe_name.specs.Bytes.{is_domain_byte, is_segment_byte, is_printable, is_quotable, IsPlainText}
use Rattle.spiffe_name.specs.TrustDomain.{IsDomainText}
use Rattle.spiffe_name.specs.SpiffeId.{Id, IsId, IsSegment, path_of_segments, scheme}

-- a byte that a plain text may have
abbrev IsPlainByte : ℕ → Type 0
IsPlainByte b = (is_printable b ≡ true) × (is_quotable b ≡ true)

-- each byte of a segment is printable
printable_segment : (b : ℕ) → is_segment_byte b ≡ true → is_printable b ≡ true
printable_segment b h = grind (arith, nat_tests)

-- no byte of a segment needs an escape in a JSON string
unescaped_segment : (b : ℕ) → is_segment_byte b ≡ true → is_quotable b ≡ true
unescaped_segment b h = grind (arith, nat_tests)

-- each byte of a domain name is printable
printable_domain : (b : ℕ) → is_domain_byte b ≡ true → is_printable b ≡ true
printable_domain b h = grind (arith, nat_tests)

-- no byte of a domain name needs an escape in a JSON string
unescaped_domain : (b : ℕ) → is_domain_byte b ≡ true → is_quotable b ≡ true
unescaped_domain b h = grind (arith, nat_tests)

-- a plain byte is ASCII
small : (b : ℕ) → IsPlainByte b → b < 128
small b h = let printable = h.0 in grind (arith, nat_tests)

-- a text of plain bytes is a plain text
plain_text : (text : List ℕ) → All IsPlainByte text → IsPlainText text
plain_text text h = record {
  printable = All-weaker IsPlainByte (λ b. is_printable b ≡ true) (λ b p. p.0) text h;
  unescaped = All-weaker IsPlainByte (λ b. is_quotable b ≡ true) (λ b p. p.1) text h;
  utf8 = IsUtf8-from_ascii text (IsAscii-from_all text (All-weaker IsPlainByte (λ b. b < 128) small text h));
}

-- a domain name has plain bytes only
plain_domain : (text : List ℕ) → IsDomainText text → All IsPlainByte text
plain_domain text h = All-weaker (λ b. is_domain_byte b ≡ true) IsPlainByte (λ b p. (printable_domain b p, unescaped_domain b p)) text h.bytes

-- a path has plain bytes only
plain_segments : (segments : List (List ℕ)) → AllByRecursion IsSegment segments → All IsPlainByte (path_of_segments segments)
plain_segments [] h = All-nil IsPlainByte
plain_segments (s ∷ segments) h =
    All-append IsPlainByte (47 ∷ s) (path_of_segments segments)
    (All-cons IsPlainByte 47 s (refl, refl)
    (All-weaker (λ b. is_segment_byte b ≡ true) IsPlainByte (λ b p. (printable_segment b p, unescaped_segment b p))
    s h.0.bytes))
    (plain_segments segments h.1)

-- the scheme has plain bytes only
plain_scheme : All IsPlainByte scheme
plain_scheme = All-from_recursion IsPlainByte scheme (
  (refl, refl),
  (
    (refl, refl),
    ((refl, refl), ((refl, refl), ((refl, refl), ((refl, refl), ((refl, refl), ((refl, refl), ((refl, refl), tt))))))),
  ),
)

-- a domain name is a plain text, as `laws::plain_texts` says
pub IsPlainText-domain : (text : List ℕ) → IsDomainText text → IsPlainText text
IsPlainText-domain text h = plain_text text (plain_domain text h)

-- an ID's text is a plain text, as `laws::plain_texts` says
pub IsPlainText-id : (id : Id) → IsId id → IsPlainText id.text
IsPlainText-id id h =
    let path : All IsPlainByte id.path = subst (All IsPlainByte) (sym h.is_path.whole) (plain_segments h.is_path.segments h.is_path.each) in
    let whole : All IsPlainByte (scheme ++ (id.domain ++ id.path)) =
    All-append IsPlainByte scheme (id.domain ++ id.path) plain_scheme (All-append IsPlainByte id.domain id.path (plain_domain id.domain h.is_domain) path) in
    plain_text id.text (subst (All IsPlainByte) (sym h.whole) whole)
