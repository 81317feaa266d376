-- An ID has one domain and one path, and a text is refused for one cause at most.
use Rattle.std.proofs.Common.{◌≡◌, ◌≢◌, ℕ, ◌+◌, ◌<◌, ◌≤◌, inl, inr, List, [], ◌++◌, length, drop, refl, sym, ◌∙◌, ap, subst, arith}
use Rattle.std.proofs.lemmas.List.{append_assoc, append_cancel_left, length-append, drop_at}
use Rattle.std.specs.Str.{IsCharBoundary}
use Rattle.spiffe_name.specs.NameError.{moved}
use Rattle.spiffe_name.specs.TrustDomain.{IsDomainText, RefusesDomain}
use Rattle.spiffe_name.specs.SpiffeId.{Id, IsId, scheme, IsIdText, IsPath, HasParts, RefusesDomainPart, RefusesId, FirstFault}
use Rattle.spiffe_name.specs.declared.error.NameError.{NameError}
use Rattle.spiffe_name.specs.declared.error.NameError.TheVariants.{Empty, TooLong, BadScheme, BadDomainByte, BadPath, NoMemory}
use Rattle.spiffe_name.proofs.SlashFacts.{same_split, IsCharBoundary-at_slash}
use Rattle.spiffe_name.proofs.FaultFacts.{one_domain_error}
use Rattle.spiffe_name.proofs.PathFacts.{EmptyOrSlash-path, no_slash_in_domain, one_fault, no_fault}

-- the length of the scheme and the domain together, at which the path begins
length-front : (domain : List ℕ) → length (scheme ++ domain) ≡ length scheme + length domain
length-front domain = length-append scheme domain

-- the path begins at a character boundary, so the code may cut the text there
pub boundary : (text domain path : List ℕ) → IsIdText text domain path → IsCharBoundary text (length scheme + length domain)
boundary text domain path id =
    subst (IsCharBoundary text) (length-front domain)
    (IsCharBoundary-at_slash text (scheme ++ domain) path (id.whole ∙ sym (append_assoc scheme domain path)) (EmptyOrSlash-path path id.is_path))

-- the path is what follows the scheme and the domain
pub path_is : (text domain path : List ℕ) → IsIdText text domain path → drop (length scheme + length domain) text ≡ path
path_is text domain path id =
    rw (id.whole ∙ sym (append_assoc scheme domain path)) (drop_at (scheme ++ domain) path (length scheme + length domain) (length-front domain))

-- the path of an ID is what follows the scheme and the domain: so the code cuts it
pub IsIdText-at : (text domain path : List ℕ) → IsIdText text domain path → IsIdText text domain (drop (length scheme + length domain) text)
IsIdText-at text domain path id = subst (IsIdText text domain) (sym (path_is text domain path id)) id

-- the same for a copy of the text and of the domain, as `read` keeps them
pub IsIdText-copied : (text domain path copy name : List ℕ) → IsIdText text domain path → copy ≡ text → name ≡ domain
    → IsIdText copy name (drop (length scheme + length name) copy)
IsIdText-copied text domain path copy name id e f = rw (e, f) (IsIdText-at text domain path id)

-- an ID has the parts that a text is cut into before they are judged
parts_of : (text domain path : List ℕ) → IsIdText text domain path → HasParts text domain path
parts_of text domain path id = record {
  limit = id.limit;
  whole = id.whole;
  no_slash = no_slash_in_domain domain id.is_domain.bytes;
  slash = EmptyOrSlash-path path id.is_path;
}

-- a text is cut into such parts in one way only
same_parts : (text domain path other more : List ℕ) → HasParts text domain path → HasParts text other more → (domain ≡ other) × (path ≡ more)
same_parts text domain path other more p q =
    same_split domain path other more p.no_slash p.slash q.no_slash q.slash (append_cancel_left scheme (domain ++ path) (other ++ more) (sym p.whole ∙ q.whole))

-- a text is an ID with one domain and one path at most
pub one_id : (text domain path other more : List ℕ) → IsIdText text domain path → IsIdText text other more → (domain ≡ other) × (path ≡ more)
one_id text domain path other more p q = same_parts text domain path other more (parts_of text domain path p) (parts_of text other more q)

-- why a text with these parts is not an ID, or that it is one
data Behind (domain path : List ℕ) : NameError → Type 0 where
  in_domain : {e : NameError} → RefusesDomain domain e → e ≢ NoMemory → Behind domain path (moved (length scheme) e)
  in_path : {n : ℕ} → IsDomainText domain → FirstFault path n → Behind domain path (BadPath (length scheme + length domain + n))
  nowhere : IsDomainText domain → IsPath path → Behind domain path NoMemory

-- the same parts have one cause at most
one_behind : (domain path : List ℕ) {e f : NameError} → Behind domain path e → Behind domain path f → e ≡ f
one_behind domain path (in_domain {e} p x) (in_domain {e = f} q y) = ap (moved (length scheme)) (one_domain_error domain e f p q)
one_behind domain path (in_domain {e} p x) (in_path q g) = absurd (x (one_domain_error domain e NoMemory p q))
one_behind domain path (in_domain {e} p x) (nowhere q g) = absurd (x (one_domain_error domain e NoMemory p q))
one_behind domain path (in_path p f) (in_domain {e} q y) = absurd (y (one_domain_error domain e NoMemory q p))
one_behind domain path (in_path {n = m} p f) (in_path {n} q g) = ap (λ k. BadPath (length scheme + length domain + k)) (one_fault path m n f g)
one_behind domain path (in_path {n = m} p f) (nowhere q g) = absurd (no_fault path m g f)
one_behind domain path (nowhere p f) (in_domain {e} q y) = absurd (y (one_domain_error domain e NoMemory q p))
one_behind domain path (nowhere p f) (in_path {n} q g) = absurd (no_fault path n f g)
one_behind domain path (nowhere p f) (nowhere q g) = refl

-- why a text is not an ID, or that it is one
data Cause (text : List ℕ) : NameError → Type 0 where
  nothing : text ≡ [] → Cause text Empty
  long : 2048 < length text → Cause text TooLong
  unlike : text ≢ [] → length text ≤ 2048 → ((rest : List ℕ) → text ≢ scheme ++ rest) → Cause text BadScheme
  behind : {domain path : List ℕ} {e : NameError} → HasParts text domain path → Behind domain path e → Cause text e

-- an empty text has no parts, since it has no scheme
no_parts_of_nothing : (text domain path : List ℕ) → text ≡ [] → HasParts text domain path → ⊥
no_parts_of_nothing text domain path e parts = let whole = parts.whole in cc

-- a text has one such cause at most
one_cause : (text : List ℕ) {e f : NameError} → Cause text e → Cause text f → e ≡ f
one_cause text (nothing p) (nothing q) = refl
one_cause text (nothing p) (long q) = absurd (omega (arith, ap length p))
one_cause text (nothing p) (unlike x l s) = absurd (x p)
one_cause text (nothing p) (behind q b) = absurd (no_parts_of_nothing text _ _ p q)
one_cause text (long p) (nothing q) = absurd (omega (arith, ap length q))
one_cause text (long p) (long q) = refl
one_cause text (long p) (unlike x l s) = absurd (omega arith)
one_cause text (long p) (behind q b) = let limit = q.limit in absurd (omega arith)
one_cause text (unlike x l s) (nothing q) = absurd (x q)
one_cause text (unlike x l s) (long q) = absurd (omega arith)
one_cause text (unlike x l s) (unlike y m t) = refl
one_cause text (unlike x l s) (behind q b) = absurd (s _ q.whole)
one_cause text (behind p b) (nothing q) = absurd (no_parts_of_nothing text _ _ q p)
one_cause text (behind p b) (long q) = let limit = p.limit in absurd (omega arith)
one_cause text (behind p b) (unlike x l s) = absurd (s _ p.whole)
one_cause text (behind {domain} {path} {e} p b) (behind {domain = other} {path = more} q c) =
    let same = same_parts text domain path other more p q in
    one_behind other more (subst (λ d. Behind d more e) same.0 (subst (λ x. Behind domain x e) same.1 b)) c

-- a refusal of the domain's part is a cause that lies after the scheme
behind_domain : (text : List ℕ) (e : NameError) → e ≢ NoMemory → RefusesDomainPart text e → Cause text (moved (length scheme) e)
behind_domain text e x (domain, path, (parts, p)) = behind parts (in_domain p x)

-- each refusal of an ID is one of these causes
cause_of : (text : List ℕ) (e : NameError) → RefusesId text e → Cause text e
cause_of text Empty (inl p) = nothing p
cause_of text Empty (inr p) = behind_domain text Empty (λ x. cc) p
cause_of text TooLong (inl p) = long p
cause_of text TooLong (inr p) = behind_domain text TooLong (λ x. cc) p
cause_of text BadScheme (x, l, s) = unlike x l s
cause_of text (BadDomainByte place) (n, (at, p)) = subst (λ k. Cause text (BadDomainByte k)) (sym at) (behind_domain text (BadDomainByte n) (λ x. cc) p)
cause_of text (BadPath place) (domain, path, n, p) = subst (λ k. Cause text (BadPath k)) (sym p.3) (behind p.0 (in_path p.1 p.2))
cause_of text NoMemory (domain, path, p) = behind (parts_of text domain path p) (nowhere p.is_domain p.is_path)

-- a text is refused for one cause at most
pub one_id_error : (text : List ℕ) (e f : NameError) → RefusesId text e → RefusesId text f → e ≡ f
one_id_error text e f p q = one_cause text (cause_of text e p) (cause_of text f q)

-- IDs with equal texts are equal as a whole, as `laws::one_reading` says
pub one_value : (one other : Id) → IsId one → IsId other → one.text ≡ other.text → one ≡ other
one_value one other p q e =
    let same = one_id other.text one.domain one.path other.domain other.path (subst (λ t. IsIdText t one.domain one.path) e p) q in
    ap (λ t. record { text = t; domain = one.domain; path = one.path }) e
    ∙ ap (λ d. record { text = other.text; domain = d; path = one.path }) same.0
    ∙ ap (λ x. record { text = other.text; domain = other.domain; path = x }) same.1
