-- What a poll line says, part by part
use Rattle.std.proofs.Common.{◌≡◌, ℕ, zero, suc, ◌==◌, not, Bool, true, false, List, [], ◌∷◌, ◌++◌, get_or, drop, None}
use Rattle.std.proofs.Common.{Some, refl, sym, ap, ap₂, ◌∙◌, subst, arith}
use Rattle.std.specs.Int.{w64}
use Rattle.std.specs.Prelude.{FitsSigned}
use Rattle.std.specs.Fmt.{signed_decimal}
use Rattle.std.specs.List.{AllPass, Contains, slice_get}
use Rattle.std.proofs.lemmas.Bool.{eqb-true}
use Rattle.spiffe_name.specs.Bytes.{is_domain_byte}
use Rattle.spiffe_name.specs.TrustDomain.{IsDomainText}
use Rattle.poll_log.specs.Inside.Statuses.{AreNames}
use Rattle.poll_log.specs.PollLines.{ReadsSeconds, SaysLine, SaysNoPoll, SaidPoll, outcome_text}
use Rattle.poll_log.specs.Inside.PollSteps.{IsWord, SaysFields, is_no_space}
use Rattle.poll_log.specs.declared.poll_lines.PollFields.{PollFields}
use Rattle.poll_log.proofs.MemberFacts.{contains_later}

-- ---- spaces

-- a space fails the test for other bytes
is_space : (b : ℕ) → b ≡ 32 → is_no_space b ≡ true → ⊥
is_space b same passes = let no : is_no_space 32 ≡ true = subst (λ x. is_no_space x ≡ true) same passes in cc

-- a text without a space has none after its first byte
all_later : (b : ℕ) (bs : List ℕ) → AllPass is_no_space (b ∷ bs) → AllPass is_no_space bs
all_later b bs plain k d below = plain (suc k) d (omega arith)

-- no byte of a domain name is a space
no_space : (b : ℕ) (q : Bool) → (b == 32) ≡ q → is_domain_byte b ≡ true → not q ≡ true
no_space b true space named = let no : is_domain_byte 32 ≡ true = subst (λ x. is_domain_byte x ≡ true) (eqb-true b 32 space) named in cc
no_space b false space named = refl

-- a domain name has no space, so it is a part of a line
pub plain_name : (domain : List ℕ) → IsDomainText domain → AllPass is_no_space domain
plain_name domain name k d below = no_space (get_or domain k d) (get_or domain k d == 32) refl (name.bytes k d below)

-- the text of an outcome has no space, so it is a part of a line
pub plain_outcome : (ok : Bool) → AllPass is_no_space (outcome_text ok)
plain_outcome true zero d below = refl
plain_outcome true (suc zero) d below = refl
plain_outcome true (suc (suc k)) d below = absurd (omega arith)
plain_outcome false zero d below = refl
plain_outcome false (suc zero) d below = refl
plain_outcome false (suc (suc zero)) d below = refl
plain_outcome false (suc (suc (suc zero))) d below = refl
plain_outcome false (suc (suc (suc (suc k)))) d below = absurd (omega arith)

-- a part and a space after it have a space
has_space : (word rest : List ℕ) → AllPass is_no_space (word ++ (32 ∷ rest)) → ⊥
has_space [] rest plain = is_space 32 refl (plain 0 0 (omega arith))
has_space (b ∷ word) rest plain = has_space word rest (all_later b (word ++ (32 ∷ rest)) plain)

-- a text has one first part
pub one_word : (word other rest more : List ℕ) → AllPass is_no_space word → AllPass is_no_space other
    → word ++ (32 ∷ rest) ≡ other ++ (32 ∷ more) → (word ≡ other) × (rest ≡ more)
one_word [] [] rest more p q e = (refl, ap (drop 1) e)
one_word [] (b ∷ other) rest more p q e = absurd (is_space b (let same : 32 ≡ b = cc in sym same) (q 0 0 (omega arith)))
one_word (b ∷ word) [] rest more p q e = absurd (is_space b (let same : b ≡ 32 = cc in same) (p 0 0 (omega arith)))
one_word (b ∷ word) (c ∷ other) rest more p q e =
    let first : b ≡ c = cc in
    let later = one_word word other rest more (all_later b word p) (all_later c other q) (ap (drop 1) e) in
    (ap₂ (λ x l. x ∷ l) first later.0, later.1)

-- ---- what a line says

-- the domain that a line says of is its first part, and the outcome and the seconds are the rest
stated_words : (domains : List (List ℕ)) (text word rest : List ℕ) (t : SaidPoll) → AreNames domains → IsWord text word rest → SaysLine domains text t
    → (t.domain ≡ word) × (outcome_text t.ok ++ (32 ∷ signed_decimal t.seconds) ≡ rest)
stated_words domains text word rest t names split says =
    one_word t.domain word _ rest (plain_name t.domain (names t.domain says.known)) split.plain (sym says.is ∙ split.whole)

-- a line without a space says of no poll
pub no_words : (domains : List (List ℕ)) (text : List ℕ) → AllPass is_no_space text → SaysNoPoll domains text
no_words domains text plain t says = has_space t.domain (outcome_text t.ok ++ (32 ∷ signed_decimal t.seconds)) (subst (AllPass is_no_space) says.is plain)

module _ (domains : List (List ℕ)) (text word rest : List ℕ) (names : AreNames domains) (split : IsWord text word rest) where
  -- a line whose first part is not a polled domain says of no poll
  pub no_domain : (Contains domains word → ⊥) → SaysNoPoll domains text
  no_domain lacks t says = lacks (subst (Contains domains) (stated_words domains text word rest t names split says).0 says.known)

  -- a line without an outcome after its first part says of no poll
  pub no_outcome : ((ok : Bool) (more : List ℕ) → rest ≡ outcome_text ok ++ (32 ∷ more) → ⊥) → SaysNoPoll domains text
  no_outcome none t says = none t.ok (signed_decimal t.seconds) (sym (stated_words domains text word rest t names split says).1)

  -- a line without a number of seconds after its outcome says of no poll
  pub no_seconds : (ok : Bool) (seconds : List ℕ) → rest ≡ outcome_text ok ++ (32 ∷ seconds) → ReadsSeconds seconds None → SaysNoPoll domains text
  no_seconds ok seconds is none t says =
      let both = one_word (outcome_text t.ok) (outcome_text ok) (signed_decimal t.seconds) seconds (plain_outcome t.ok)
      (plain_outcome ok) ((stated_words domains text word rest t names split says).1 ∙ is) in
      none t.seconds says.within (sym both.1)

-- an item at a place is a member
contains_at : {X : Type 0} (xs : List X) (k : ℕ) (x : X) → slice_get xs k ≡ Some x → Contains xs x
contains_at [] k x at = cc
contains_at (y ∷ xs) zero x at = let same : y ≡ x = cc in (0, omega arith, same)
contains_at (y ∷ xs) (suc k) x at = contains_later y xs x (contains_at xs k x at)

-- a line whose parts were all read says of these parts
pub states_parts : (domains : List (List ℕ)) (text word rest seconds : List ℕ) (parts : PollFields) → IsWord text word rest
    → slice_get domains parts.place ≡ Some word → rest ≡ outcome_text parts.ok ++ (32 ∷ seconds)
    → seconds ≡ signed_decimal parts.seconds → FitsSigned w64 parts.seconds → SaysFields domains text parts
states_parts domains text word rest seconds parts split at outcome read fits = record {
  said = record { domain = word; ok = parts.ok; seconds = parts.seconds };
  says = record {
    is = split.whole ∙ ap (λ l. word ++ (32 ∷ l)) (outcome ∙ ap (λ l. outcome_text parts.ok ++ (32 ∷ l)) read);
    within = fits;
    known = contains_at domains parts.place word at;
  };
  place = at;
  ok = refl;
  seconds = refl;
}
