-- A text has one first wrong byte at most, and a name has none.
use Rattle.std.proofs.Common.{◌≡◌, ℕ, ◌<◌, inl, inr, ⊎_elim, Bool, true, List, [], length, take, refl, sym, ◌∙◌, ap, arith, bytes_eq, codes}
use Rattle.std.proofs.lemmas.Bool.{or_cases}
use Rattle.std.proofs.lemmas.Slice.Eq.{bytes_eq-Decides}
use Rattle.std.proofs.lemmas.List.Sums.{AllPass-from_list_all}
use Rattle.std.proofs.lemmas.List.{get_or-take, length-take-le}
use Rattle.std.proofs.lemmas.List.Elements.{All-get_or}
use Rattle.std.specs.List.{AllPass, list_all}
use Rattle.spiffe_name.specs.Bytes.{is_domain_byte, is_segment_byte, FirstFails}
use Rattle.spiffe_name.specs.TrustDomain.{RefusesDomain}
use Rattle.spiffe_name.specs.SpiffeId.{IsSegment, FaultInSegment, is_empty_or_modifier}
use Rattle.spiffe_name.specs.declared.error.NameError.{NameError}
use Rattle.spiffe_name.specs.declared.error.NameError.TheVariants.{Empty, TooLong, BadScheme, BadDomainByte, BadPath, NoMemory}

-- if all bytes pass a test, none fails it
pub not_all : (test : ℕ → Bool) (text : List ℕ) (n : ℕ) → AllPass test text → FirstFails test text n → ⊥
not_all test text n all f = let h = All-get_or (λ b. test b ≡ true) text n 0 f.within all in let e = f.fails in cc

-- no byte fails before the first that fails
not_before : (test : ℕ → Bool) (text : List ℕ) (m n : ℕ) → m < n → FirstFails test text m → FirstFails test text n → ⊥
not_before test text m n low f g =
    let size : length (take n text) ≡ n = length-take-le n text (let w = g.within in omega arith) in
    let h = All-get_or (λ b. test b ≡ true) (take n text) m 0 (rw size low) g.before in
    let e = f.fails in
    let same = get_or-take n text m 0 low in
    cc

-- a text has one first byte that fails
pub one_first : (test : ℕ → Bool) (text : List ℕ) (m n : ℕ) → FirstFails test text m → FirstFails test text n → m ≡ n
one_first test text m n f g =
    let first : m < n → ⊥ = λ low. not_before test text m n low f g in
    let second : n < m → ⊥ = λ low. not_before test text n m low g f in
    omega arith

-- a domain text is refused for one cause at most
pub one_domain_error : (text : List ℕ) (e f : NameError) → RefusesDomain text e → RefusesDomain text f → e ≡ f
one_domain_error text BadScheme f p q = absurd p
one_domain_error text (BadPath m) f p q = absurd p
one_domain_error text e BadScheme p q = absurd q
one_domain_error text e (BadPath n) p q = absurd q
one_domain_error text Empty Empty p q = refl
one_domain_error text TooLong TooLong p q = refl
one_domain_error text NoMemory NoMemory p q = refl
one_domain_error text (BadDomainByte m) (BadDomainByte n) p q = ap BadDomainByte (one_first is_domain_byte text m n p.1 q.1)
one_domain_error text Empty TooLong p q = absurd (omega (arith, ap length p))
one_domain_error text Empty (BadDomainByte n) p q = let within = q.1.within in absurd (omega (arith, ap length p))
one_domain_error text Empty NoMemory p q = let some = q.some in absurd (omega (arith, ap length p))
one_domain_error text TooLong Empty p q = absurd (omega (arith, ap length q))
one_domain_error text TooLong (BadDomainByte n) p q = let limit = q.0 in absurd (omega arith)
one_domain_error text TooLong NoMemory p q = let limit = q.limit in absurd (omega arith)
one_domain_error text (BadDomainByte m) Empty p q = let within = p.1.within in absurd (omega (arith, ap length q))
one_domain_error text (BadDomainByte m) TooLong p q = let limit = p.0 in absurd (omega arith)
one_domain_error text (BadDomainByte m) NoMemory p q = absurd (not_all is_domain_byte text m q.bytes p.1)
one_domain_error text NoMemory Empty p q = let some = p.some in absurd (omega (arith, ap length q))
one_domain_error text NoMemory TooLong p q = let limit = p.limit in absurd (omega arith)
one_domain_error text NoMemory (BadDomainByte n) p q = absurd (not_all is_domain_byte text n p.bytes q.1)

-- the empty segment and the relative path modifiers have good bytes only, so the two errors of a
-- segment exclude each other
modifier_passes : (segment : List ℕ) → is_empty_or_modifier segment ≡ true → AllPass is_segment_byte segment
modifier_passes segment h =
    let passes : (text : List ℕ) → list_all is_segment_byte text ≡ true → bytes_eq segment text ≡ true → AllPass is_segment_byte segment
    = λ text all same. AllPass-from_list_all is_segment_byte segment (ap (list_all is_segment_byte) ((bytes_eq-Decides segment text).0 same) ∙ all) in
    ⊎_elim
    (λ k. ⊎_elim (passes [] refl) (passes (codes ".") refl) (or_cases _ _ k))
    (passes (codes "..") refl)
    (or_cases _ _ h)

-- a segment has one error at most
pub one_segment_fault : (segment : List ℕ) (m n : ℕ) → FaultInSegment segment m → FaultInSegment segment n → m ≡ n
one_segment_fault segment m n (inl f) (inl g) = one_first is_segment_byte segment m n f g
one_segment_fault segment m n (inl f) (inr g) = absurd (not_all is_segment_byte segment m (modifier_passes segment g.0) f)
one_segment_fault segment m n (inr f) (inl g) = absurd (not_all is_segment_byte segment n (modifier_passes segment f.0) g)
one_segment_fault segment m n (inr f) (inr g) = f.1 ∙ sym g.1

-- a good segment has no error
pub no_segment_fault : (segment : List ℕ) (n : ℕ) → IsSegment segment → FaultInSegment segment n → ⊥
no_segment_fault segment n good (inl f) = not_all is_segment_byte segment n good.bytes f
no_segment_fault segment n good (inr f) = let e = good.named in let h = f.0 in cc
