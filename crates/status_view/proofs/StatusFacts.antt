-- Keys, domains and conflicts, as a status is made of them.
use Rattle.std.proofs.Common.{◌≡◌, ◌↔◌, ℕ, List, [], ◌∷◌, ◌++◌, map, length, filter, Bool, true, false, refl, sym, ap, ◌∙◌, subst, arith}
use Rattle.std.proofs.Common.{IsTrue, suc, cond, ◌&&◌, ◌||◌, inl, inr}
use Rattle.std.proofs.lemmas.Bool.{and_from, cases_Bool, or_left, or_right}
use Rattle.std.proofs.lemmas.Slice.Eq.{bytes_eq-Decides}
use Rattle.std.proofs.lemmas.List.{map-append}
use Rattle.std.proofs.lemmas.List.Elements.{Contains-push_cases}
use Rattle.std.specs.List.{Contains, list_any}
use Rattle.std.specs.Str.{bytes_eq}
use Rattle.closure_core.proofs.ContainsFacts.{contains_cases, contains_first, contains_later, contains_none}
use Rattle.jwk_set.specs.declared.authority.KeyId.{KeyId}
use Rattle.receipt_core.specs.Acceptance.{Meaning}
use Rattle.receipt_core.specs.Receipt.{Pair, offer_of}
use Rattle.receipt_core.specs.declared.triple.Triple.{Triple}
use Rattle.receipt_core.specs.declared.distrust.Distrust.{Distrust}
use Rattle.fed_config.specs.Configuration.{AreDomains}
use Rattle.bundle_view.specs.declared.conflict.Conflict.{Conflict}
use Rattle.bundle_view.specs.Conflicts.{ReportedConflict, reported_by}
use Rattle.status_view.specs.declared.status.DomainStatus.{DomainStatus}
use Rattle.status_view.specs.Status.{IsDomainStatus, is_against, is_clash_of, key_status}
use Rattle.status_view.specs.Inside.DomainsSoFar.{AreAllStatuses, AreStatusesOf}

-- an item that passes the test makes some item pass it
pub some_passes : {X : Type 0} (p : X → Bool) (xs : List X) (x : X) → Contains xs x → p x ≡ true → list_any p xs ≡ true
some_passes p [] x has e = absurd (contains_none x has)
some_passes p (y ∷ ys) x has e = elim (contains_cases y ys x has) [
  | inl here ↦ or_left (p y) (list_any p ys) (ap p here ∙ e)
  | inr later ↦ or_right (p y) (list_any p ys) (some_passes p ys x later e)
]

-- and if some item passes it, one of the list does
pub which_passes : {X : Type 0} (p : X → Bool) (xs : List X) → list_any p xs ≡ true → (x : X) × Contains xs x × (p x ≡ true)
which_passes p [] e = absurd (let f : false ≡ true = e in cc)
which_passes p (y ∷ ys) e = elim (cases_Bool (p y)) [
  | inl s ↦ (y, contains_first y ys, s)
  | inr s ↦ let rest = which_passes p ys (ap (λ b. b || list_any p ys) (sym s) ∙ e) in
      (rest.0, contains_later y ys rest.0 rest.1, rest.2)
]

-- both tests passed
pub both_passed : (a b : Bool) → (a && b) ≡ true → (a ≡ true) × (b ≡ true)
both_passed true b e = (refl, e)
both_passed false b e = absurd (let f : false ≡ true = e in cc)

-- the record of a key in a domain
abbrev pub record_against : List ℕ → KeyId → Distrust
record_against domain key = record { domain = domain; key = key }

-- a record against the key in the domain is that one
pub against_is : (domain : List ℕ) (key : KeyId) (x : Distrust) → is_against domain key x ≡ true → x ≡ record_against domain key
against_is domain key x e =
    let both = both_passed (bytes_eq x.domain domain) (bytes_eq x.key.0 key.0) e in
    let of = (bytes_eq-Decides x.domain domain).0 both.0 in
    let is = (bytes_eq-Decides x.key.0 key.0).0 both.1 in
    λ i. record { domain = of i; key = record { 0 = is i } }

-- that one is against it
pub against_own : (domain : List ℕ) (key : KeyId) → is_against domain key (record_against domain key) ≡ true
against_own domain key = and_from (bytes_eq domain domain) (bytes_eq key.0 key.0) ((bytes_eq-Decides domain domain).1 refl)
    ((bytes_eq-Decides key.0 key.0).1 refl)

-- two tests of which each passes if the other does are one
pub same_tests : (a b : Bool) → (a ≡ true → b ≡ true) → (b ≡ true → a ≡ true) → a ≡ b
same_tests true b there back = sym (there refl)
same_tests false true there back = back refl
same_tests false false there back = refl

-- whether the record is held is whether some held record is against the key in the domain
pub against_any : (domain : List ℕ) (key : KeyId) (records : List Distrust) (held : Bool)
    → (IsTrue held ↔ Contains records (record_against domain key)) → held ≡ list_any (is_against domain key) records
against_any domain key records held same =
    same_tests held (list_any (is_against domain key) records)
    (λ e. some_passes (is_against domain key) records (record_against domain key) (same.0 e) (against_own domain key))
    (λ e. let one = which_passes (is_against domain key) records e in
    same.1 (subst (Contains records) (against_is domain key one.0 one.2) one.1))

-- one more item, or none, on both of two lists of one length
pub same_length : {X Y : Type 0} (b : Bool) (x : X) (xs : List X) (y : Y) (ys : List Y) → length xs ≡ length ys
    → length (cond b (x ∷ xs) xs) ≡ length (cond b (y ∷ ys) ys)
same_length true x xs y ys e = ap suc e
same_length false x xs y ys e = e

-- how many conflicts are of the domain, as they are reported and as they are
pub reported_count : (domain : List ℕ) (clashes : List Conflict)
    → length (filter (is_clash_of domain) (map reported_by clashes)) ≡ length (filter (λ (c : Conflict). bytes_eq c.domain domain) clashes)
reported_count domain [] = refl
reported_count domain (c ∷ clashes) =
    same_length (bytes_eq c.domain domain) (reported_by c) (filter (is_clash_of domain) (map reported_by clashes)) c
    (filter (λ (k : Conflict). bytes_eq k.domain domain) clashes) (reported_count domain clashes)

-- the statuses of the keys that a document can vouch by
pub offer_statuses : (records : List Distrust) (p : Pair) (keys : List KeyId)
    → map (λ (t : Triple). key_status records p.domain t.key) (map (offer_of p) keys) ≡ map (key_status records p.domain) keys
offer_statuses records p [] = refl
offer_statuses records p (key ∷ others) = ap (λ rest. key_status records p.domain key ∷ rest) (offer_statuses records p others)

-- before the first domain
pub statuses_none : (m : Meaning) (clashes : List ReportedConflict) (new : List DomainStatus) → new ≡ []
    → AreStatusesOf m clashes [] new
statuses_none m clashes new empty = record {
  domains_are = ap (map (λ (s : DomainStatus). s.domain)) empty;
  each = λ s h. absurd (let none = subst (λ xs. Contains xs s) empty h in omega (arith, none.1));
}

-- one more domain: the step of the loop in `domain_statuses`
pub statuses_more : (m : Meaning) (clashes : List ReportedConflict) (domains : List (List ℕ)) (domain : List ℕ)
    (old new : List DomainStatus) (s : DomainStatus) → AreStatusesOf m clashes domains old → s.domain ≡ domain → IsDomainStatus m clashes s
    → new ≡ old ++ s ∷ [] → AreStatusesOf m clashes (domains ++ domain ∷ []) new
statuses_more m clashes domains domain old new s are of is now = record {
  domains_are = ap (map (λ (s : DomainStatus). s.domain)) now ∙ map-append (λ (s : DomainStatus). s.domain) old (s ∷ [])
      ∙ (λ i. are.domains_are i ++ of i ∷ []);
  each = λ x h. elim (Contains-push_cases old s x (subst (λ xs. Contains xs x) now h)) [
    | inl before ↦ are.each x before
    | inr same ↦ subst (IsDomainStatus m clashes) same is
  ];
}

-- after the last domain these are all
pub statuses_all : (m : Meaning) (clashes : List ReportedConflict) (domains : List (List ℕ)) (statuses : List DomainStatus)
    → AreDomains m.config domains → AreStatusesOf m clashes domains statuses → AreAllStatuses m clashes statuses
statuses_all m clashes domains statuses are of = record {
  are_domains = subst (AreDomains m.config) (sym of.domains_are) are;
  each = of.each;
}
