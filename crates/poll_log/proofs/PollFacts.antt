-- What one more poll changes in a log, and how a log is searched
use Rattle.std.proofs.Common.{◌≡◌, not, append-nil, ap₂, ℕ, zero, suc, ◌+◌, ◌<◌, ◌≤◌, min, inl, inr, ⊎_elim, ℤ, Bool}
use Rattle.std.proofs.Common.{true, false, cond, if◌then◌else◌, List, [], ◌∷◌, ◌++◌, map, filter, reverse, length, get_or, set}
use Rattle.std.proofs.Common.{Option, Some, None, Result, Ok, Err, Less, Equal, Greater, refl, sym, ap, ◌∙◌, subst}
use Rattle.std.proofs.Common.{arith}
use Rattle.std.specs.Ordering.{nat_cmp, ordering_reverse, ordering_index, is_lt}
use Rattle.std.specs.Cmp.Lexicographic.{slice_cmp}
use Rattle.std.specs.Str.{bytes_eq}
use Rattle.std.specs.Option.{option_map}
use Rattle.std.specs.Result.{result_ok}
use Rattle.std.specs.List.{AllByRecursion, Contains, slice_get, prefix_len, suffix_len}
use Rattle.std.specs.List.Sorted.{IsStrictlySortedBy, IsSorted, IsSearchInRange, IsBinarySearchResult, IsNonDecreasingBy, IsPartitionPoint}
use Rattle.std.proofs.lemmas.Bool.{cases_lt}
use Rattle.std.proofs.lemmas.Cmp.{nat_list_cmp_total, tied_itself}
use Rattle.std.proofs.lemmas.List.{reverse-append, get_or-map, length-map, map-set}
use Rattle.std.proofs.lemmas.List.Elements.{filter-append}
use Rattle.std.proofs.lemmas.List.Sorted.{searchable_from_sorted}
use Rattle.std.proofs.lemmas.Map.Keys.{Less-from_sorted}
use Rattle.std.proofs.lemmas.Map.Lookups.{exact_bytes}
use Rattle.std.proofs.lemmas.Option.{slice_get-get_or, slice_get-map}
use Rattle.std.proofs.lemmas.Slice.Eq.{bytes_eq-Decides}
use Rattle.spiffe_name.specs.TrustDomain.{IsDomainText}
use Rattle.fed_config.specs.Configuration.{Configuration, IsConfiguration, IsRelationship, domain_cmp, relationship_cmp}
use Rattle.fed_config.specs.declared.relationship.Relationship.{Relationship}
use Rattle.poll_log.specs.Polling.{Poll, is_of_domain, has_failed, has_succeeded, polls_of, first_moment, last_moment}
use Rattle.poll_log.specs.Polling.{PollStatus, standing_of}
use Rattle.poll_log.specs.Polling.{log_of, polled_domains, IsLog, RecordsPoll, standing_in, IsNextAfter, IsNext}
use Rattle.poll_log.specs.Polling.{IsDueAfter, IsPollDue}
use Rattle.poll_log.specs.Inside.Statuses.{AreNames, after, kept_status, IsIn, IsPlaceOf}
use Rattle.poll_log.specs.declared.log.PollStatus as held
use Rattle.poll_log.specs.declared.error.PollError.{PollError}
use Rattle.poll_log.proofs.MemberFacts.{not_below_itself, contains_first, contains_later, contains_cases}

-- ---- tests of names

-- equal bytes pass the test
same_bytes : (a : List ℕ) → bytes_eq a a ≡ true
same_bytes a = (bytes_eq-Decides a a).1 refl

-- a test that is not passed has the result `false`
not_true : (q : Bool) → (q ≡ true → ⊥) → q ≡ false
not_true true isnt = absurd (isnt refl)
not_true false isnt = refl

-- different bytes fail the test
other_bytes : (a b : List ℕ) → (a ≡ b → ⊥) → bytes_eq a b ≡ false
other_bytes a b differ = not_true (bytes_eq a b) (λ e. differ ((bytes_eq-Decides a b).0 e))

-- ---- one more poll

-- one more poll is one more of its own domain and none of another
polls_of-more : (domain : List ℕ) (polls : List Poll) (p : Poll) (q : Bool) → is_of_domain domain p ≡ q
    → polls_of domain (polls ++ p ∷ []) ≡ polls_of domain polls ++ cond q (p ∷ []) []
polls_of-more domain polls p q is = filter-append (is_of_domain domain) polls (p ∷ []) ∙ ap (λ b. polls_of domain polls ++ cond b (p ∷ []) []) is

-- failures counted to twelve one by one are all of them, cut off at twelve
counted : (n : ℕ) (ok : Bool) → min 12 (cond (not ok) (1 + n) 0) ≡ (if ok then 0 else min (min 12 n) 11 + 1)
counted n true = refl
counted n false = omega arith

-- the time of the last poll is that of one more, if it counts, and else what it was
last_moment-more : (polls : List Poll) (p : Poll) (counts : Bool)
    → last_moment (polls ++ cond counts (p ∷ []) []) ≡ (if counts then Some p.moment else last_moment polls)
last_moment-more polls p true = ap first_moment (reverse-append polls (p ∷ []))
last_moment-more polls p false = ap last_moment (append-nil polls)

-- one more poll is the last success if it succeeded
last_success-more : (polls : List Poll) (p : Poll)
    → last_moment (filter has_succeeded (polls ++ p ∷ [])) ≡ (if p.ok then Some p.moment else last_moment (filter has_succeeded polls))
last_success-more polls p = ap last_moment (filter-append has_succeeded polls (p ∷ [])) ∙ last_moment-more (filter has_succeeded polls) p p.ok

-- what one more poll changes in what is kept of its domain
standing_of-same : (polls : List Poll) (p : Poll) → standing_of (polls ++ p ∷ []) p.domain ≡ after (standing_of polls p.domain) p.moment p.ok
standing_of-same polls p =
    let qs : List Poll = polls_of p.domain polls in
    let more : polls_of p.domain (polls ++ p ∷ []) ≡ qs ++ p ∷ [] = polls_of-more p.domain polls p true (same_bytes p.domain) in
    let turned : reverse (polls_of p.domain (polls ++ p ∷ [])) ≡ p ∷ reverse qs = ap reverse more ∙ reverse-append qs (p ∷ []) in
    let last : last_moment (polls_of p.domain (polls ++ p ∷ [])) ≡ Some p.moment = ap first_moment turned in
    let succeeded : last_moment (filter has_succeeded (polls_of p.domain (polls ++ p ∷ [])))
    ≡ (if p.ok then Some p.moment else last_moment (filter has_succeeded qs)) =
    ap (λ l. last_moment (filter has_succeeded l)) more ∙ last_success-more qs p in
    let failures : min 12 (suffix_len has_failed (polls_of p.domain (polls ++ p ∷ []))) ≡ (if p.ok then 0 else min (min 12 (suffix_len has_failed qs)) 11 + 1) =
    ap (λ l. min 12 (prefix_len has_failed l)) turned ∙ counted (prefix_len has_failed (reverse qs)) p.ok in
    λ i. record { domain = p.domain; last = last i; succeeded = succeeded i; failures = failures i }

-- what is kept of another domain does not change
standing_of-other : (polls : List Poll) (p : Poll) (domain : List ℕ) → (p.domain ≡ domain → ⊥) → standing_of (polls ++ p ∷ []) domain ≡ standing_of polls domain
standing_of-other polls p domain differ =
    let more : polls_of domain (polls ++ p ∷ []) ≡ polls_of domain polls =
    polls_of-more domain polls p false (other_bytes p.domain domain differ) ∙ append-nil (polls_of domain polls) in
    λ i. record {
      domain = domain;
      last = last_moment (more i);
      succeeded = last_moment (filter has_succeeded (more i));
      failures = min 12 (suffix_len has_failed (more i));
    }

-- ---- a log

-- a log has the domains that it is the log of
pub domains_of-log : (domains : List (List ℕ)) (polls : List Poll) → polled_domains (log_of domains polls) ≡ domains
domains_of-log [] polls = refl
domains_of-log (d ∷ ds) polls = ap (λ l. d ∷ l) (domains_of-log ds polls)

-- a domain that is below another is not that one
differs : (a b : List ℕ) → domain_cmp a b ≡ Less → a ≡ b → ⊥
differs a b below same = not_below_itself nat_list_cmp_total b (subst (λ x. domain_cmp x b ≡ Less) same below)

-- a poll changes nothing for the domains above its own
log_of-others : (domains : List (List ℕ)) (polls : List Poll) (p : Poll)
    → AllByRecursion (λ y. domain_cmp p.domain y ≡ Less) domains
    → log_of domains (polls ++ p ∷ []) ≡ log_of domains polls
log_of-others [] polls p all = refl
log_of-others (d ∷ ds) polls p all = ap₂ (λ s l. s ∷ l) (standing_of-other polls p d (differs p.domain d all.0)) (log_of-others ds polls p all.1)

-- what holds of each item holds of the one at a place
each_at : {A : Type 0} (P : A → Type 0) (xs : List A) (k : ℕ) (x : A) → AllByRecursion P xs → slice_get xs k ≡ Some x → P x
each_at P [] k x all at = cc
each_at P (y ∷ ys) zero x all at = let same : y ≡ x = cc in subst P same all.0
each_at P (y ∷ ys) (suc k) x all at = each_at P ys k x all.1 at

-- what is kept for the poll's domain changes, and nothing else
pub log_of-more : (domains : List (List ℕ)) (polls : List Poll) (p : Poll) (k : ℕ) (d : PollStatus)
    → IsStrictlySortedBy domain_cmp domains → slice_get domains k ≡ Some p.domain
    → set (log_of domains polls) k (after (get_or (log_of domains polls) k d) p.moment p.ok) ≡ log_of domains (polls ++ p ∷ [])
unfolding IsStrictlySortedBy
log_of-more [] polls p k d rising at = cc
log_of-more (x ∷ xs) polls p zero d rising at =
    let same : x ≡ p.domain = cc in
    let here : standing_of (polls ++ p ∷ []) x ≡ after (standing_of polls x) p.moment p.ok =
    subst (λ y. standing_of (polls ++ p ∷ []) y ≡ after (standing_of polls y) p.moment p.ok) (sym same) (standing_of-same polls p) in
    let above : AllByRecursion (λ y. domain_cmp p.domain y ≡ Less) xs = subst (λ z. AllByRecursion (λ y. domain_cmp z y ≡ Less) xs) same rising.0 in
    ap₂ (λ s l. s ∷ l) (sym here) (sym (log_of-others xs polls p above))
log_of-more (x ∷ xs) polls p (suc k) d rising at =
    let below : domain_cmp x p.domain ≡ Less = each_at (λ y. domain_cmp x y ≡ Less) xs k p.domain rising.0 at in
    ap₂ (λ s l. s ∷ l) (sym (standing_of-other polls p x (λ e. differs x p.domain below (sym e)))) (log_of-more xs polls p k d rising.1 at)

-- the domains of a log rise
pub rising_of : (log : List PollStatus) → IsLog log → IsStrictlySortedBy domain_cmp (polled_domains log)
rising_of log is = subst (IsStrictlySortedBy domain_cmp) (sym (ap polled_domains is.is ∙ domains_of-log is.domains is.polls)) is.rising

-- the change that the code makes at the domain's place records the poll
pub Adds-at : (log : List PollStatus) (p : Poll) (k : ℕ) (d : PollStatus) → IsLog log
    → slice_get (polled_domains log) k ≡ Some p.domain
    → RecordsPoll log p (set log k (after (get_or log k d) p.moment p.ok))
Adds-at log p k d is at domains polls log_is =
    let own : polled_domains log ≡ domains = ap polled_domains log_is ∙ domains_of-log domains polls in
    let rising : IsStrictlySortedBy domain_cmp domains = subst (IsStrictlySortedBy domain_cmp) own (rising_of log is) in
    ap (λ l. set l k (after (get_or l k d) p.moment p.ok)) log_is
    ∙ log_of-more domains polls p k d rising (subst (λ l. slice_get l k ≡ Some p.domain) own at)

-- a log in which one more poll was recorded is a log
pub IsLog-more : (old new : List PollStatus) (p : Poll) → IsLog old → RecordsPoll old p new → IsLog new
IsLog-more old new p is adds = record {
  domains = is.domains;
  rising = is.rising;
  names = is.names;
  polls = is.polls ++ p ∷ [];
  is = adds is.domains is.polls is.is;
}

-- ---- searches

-- what the log keeps for a domain is at the domain's place
pub standing_in-at : (log : List PollStatus) (domain : List ℕ) (k : ℕ) (d : PollStatus)
    → IsStrictlySortedBy domain_cmp (polled_domains log) → slice_get (polled_domains log) k ≡ Some domain
    → standing_in log domain ≡ Some (get_or log k d)
unfolding IsStrictlySortedBy
standing_in-at [] domain k d rising at = cc
standing_in-at (s ∷ log) domain zero d rising at =
    let same : s.domain ≡ domain = cc in
    let test : bytes_eq s.domain domain ≡ true = (bytes_eq-Decides s.domain domain).1 same in
    ap (λ q. cond q (Some s) (standing_in log domain)) test
standing_in-at (s ∷ log) domain (suc k) d rising at =
    let below : domain_cmp s.domain domain ≡ Less = each_at (λ y. domain_cmp s.domain y ≡ Less) (polled_domains log) k domain rising.0 at in
    let test : bytes_eq s.domain domain ≡ false = other_bytes s.domain domain (differs s.domain domain below) in
    ap (λ q. cond q (Some s) (standing_in log domain)) test ∙ standing_in-at log domain k d rising.1 at

-- the log keeps nothing for a domain that it lacks
pub standing_in-none : (log : List PollStatus) (domain : List ℕ) → (Contains (polled_domains log) domain → ⊥) → standing_in log domain ≡ None
standing_in-none [] domain lacks = refl
standing_in-none (s ∷ log) domain lacks =
    let test : bytes_eq s.domain domain ≡ false = other_bytes s.domain domain (λ e. lacks (0, omega arith, e)) in
    ap (λ q. cond q (Some s) (standing_in log domain)) test
    ∙ standing_in-none log domain (λ has. lacks (suc has.0, omega (arith, has.1), has.2))

module _ {X : Type 0} (key : X → List ℕ) where
  -- what is above is not less
  falls_back : (x y : List ℕ) → domain_cmp x y ≡ Less → is_lt (domain_cmp y x) ≡ false
  falls_back x y below = let above : domain_cmp y x ≡ Greater = nat_list_cmp_total.antisymm y x ∙ ap ordering_reverse below in ap is_lt above

  -- items whose keys are strictly sorted are sorted by their keys, as a binary search asks for
  sorted_by_key : (xs : List X) → IsStrictlySortedBy domain_cmp (map key xs) → IsSorted (λ a b. domain_cmp (key a) (key b)) xs
  sorted_by_key xs rising k d low below =
      let size : length (map key xs) ≡ length xs = length-map xs key in
      let less : domain_cmp (get_or (map key xs) k (key d)) (get_or (map key xs) (k + 1) (key d)) ≡ Less =
      Less-from_sorted domain_cmp (map key xs) k (k + 1) (key d) rising (omega arith) (omega arith) in
      falls_back (key (get_or xs k d)) (key (get_or xs (k + 1) d))
      (subst (λ y. domain_cmp (key (get_or xs k d)) y ≡ Less) (get_or-map key xs (k + 1) d (key d) (omega arith))
      (subst (λ x. domain_cmp x (get_or (map key xs) (k + 1) (key d)) ≡ Less) (get_or-map key xs k d (key d) (omega arith)) less))

  -- a key is that of an element
  from_map : (xs : List X) (x : List ℕ) → Contains (map key xs) x → (y : X) × (Contains xs y × (key y ≡ x))
  from_map [] x has = absurd (omega (arith, has.1))
  from_map (z ∷ xs) x has = elim (contains_cases (key z) (map key xs) x has) [
    | inl same ↦ (z, (contains_first z xs, same))
    | inr later ↦ let found = from_map xs x later in (found.0, (contains_later z xs found.0 found.1.0, found.1.1))
  ]

  -- what a binary search does not find is not a key
  not_found : (xs : List X) (x : List ℕ) (i : ℕ) → IsStrictlySortedBy domain_cmp (map key xs)
      → (IsNonDecreasingBy (λ y. ordering_index (domain_cmp (key y) x)) xs
      → IsPartitionPoint (λ y. domain_cmp (key y) x ≡ Less) (λ y. domain_cmp (key y) x ≡ Greater) xs i)
      → Contains (map key xs) x → ⊥
  not_found xs x i rising splits inside =
      let split = splits (searchable_from_sorted nat_list_cmp_total key xs x (sorted_by_key xs rising)) in
      let (y, (has, same)) = from_map xs x inside in
      let tied : domain_cmp (key (get_or xs has.0 y)) x ≡ Equal =
      subst (λ z. domain_cmp (key z) x ≡ Equal) (sym has.2)
      (subst (λ k. domain_cmp (key y) k ≡ Equal) same (tied_itself nat_list_cmp_total (key y))) in
      ⊎_elim
      (λ (before : has.0 < i). let less = split.0 has.0 y (omega arith) before in cc)
      (λ (behind : i ≤ has.0). let greater = split.1 has.0 y behind has.1 in cc)
      (cases_lt has.0 i)

  -- the key at a place is that of the item there
  slice_get_key : (xs : List X) (k : ℕ) (x : List ℕ) → k < length xs → ((d : X) → key (get_or xs k d) ≡ x) → slice_get (map key xs) k ≡ Some x
  slice_get_key [] k x below here = absurd (omega arith)
  slice_get_key (y ∷ xs) zero x below here = ap Some (here y)
  slice_get_key (y ∷ xs) (suc k) x below here = slice_get_key xs k x (omega arith) here

  -- a binary search returns the place of the key, or none if no item has it
  pub place_found : (xs : List X) (x : List ℕ) (r : Result ℕ ℕ) → IsStrictlySortedBy domain_cmp (map key xs)
      → IsSearchInRange r (length xs) → IsBinarySearchResult (λ y. domain_cmp (key y) x) xs r
      → IsIn (map key xs) x (result_ok r)
  place_found xs x (Ok k) rising within found = slice_get_key xs k x within (λ d. exact_bytes (key (get_or xs k d)) x (found d))
  place_found xs x (Err i) rising within splits = not_found xs x i rising splits

-- the domains of a log are those of the statuses in memory
domains_of-kept : (xs : List held.PollStatus) → polled_domains (map kept_status xs) ≡ map (λ (s : held.PollStatus). s.domain) xs
domains_of-kept [] = refl
domains_of-kept (x ∷ xs) = ap (λ l. x.domain ∷ l) (domains_of-kept xs)

-- the same for a search in the statuses in memory
pub standing_found : (xs : List held.PollStatus) (log : List PollStatus) (x : List ℕ) (r : Result ℕ ℕ)
    → map kept_status xs ≡ log → IsLog log → IsSearchInRange r (length xs)
    → IsBinarySearchResult (λ (s : held.PollStatus). slice_cmp nat_cmp s.domain x) xs r → IsPlaceOf log x (result_ok r)
standing_found xs log x r log_is is within answer =
    let same : polled_domains log ≡ map (λ (s : held.PollStatus). s.domain) xs = sym (ap polled_domains log_is) ∙ domains_of-kept xs in
    subst (λ names. IsIn names x (result_ok r)) (sym same)
    (place_found (λ (s : held.PollStatus). s.domain) xs x r (subst (IsStrictlySortedBy domain_cmp) same (rising_of log is)) within answer)

-- ---- a new log

-- a relationship that is below others has its domain below theirs
below_names : (x : Relationship) (rs : List Relationship) → AllByRecursion (λ y. relationship_cmp x y ≡ Less) rs
    → AllByRecursion (λ y. domain_cmp x.domain y ≡ Less) (map (λ r. r.domain) rs)
below_names x [] all = tt
below_names x (r ∷ rs) all = (all.0, below_names x rs all.1)

-- the domains of relationships in order rise
rising_names : (rs : List Relationship) → IsStrictlySortedBy relationship_cmp rs → IsStrictlySortedBy domain_cmp (map (λ r. r.domain) rs)
unfolding IsStrictlySortedBy
rising_names [] rising = tt
rising_names (r ∷ rs) rising = (below_names r rs rising.0, rising_names rs rising.1)

-- the domains of relationships are domain names
pub each_name : (rs : List Relationship) → AllByRecursion IsRelationship rs → (domain : List ℕ) → Contains (map (λ r. r.domain) rs) domain → IsDomainText domain
each_name [] all domain has = absurd (omega (arith, has.1))
each_name (r ∷ rs) all domain has = elim (contains_cases r.domain (map (λ r. r.domain) rs) domain has) [
  | inl same ↦ subst IsDomainText same all.0.domain
  | inr later ↦ each_name rs all.1 domain later
]

-- a log of no polls, with a place for each relationship, is a log
pub IsLog-new : (c : Configuration) (rs : List Relationship) (log : List PollStatus) → IsConfiguration c
    → rs ≡ c.relationships → log ≡ log_of (map (λ r. r.domain) rs) [] → IsLog log
IsLog-new c rs log form same is = record {
  domains = map (λ r. r.domain) rs;
  rising = rising_names rs (subst (IsStrictlySortedBy relationship_cmp) (sym same) form.rising_relationships);
  names = each_name rs (subst (AllByRecursion IsRelationship) (sym same) form.each_relationship);
  polls = [];
  is = is;
}

-- ---- the statuses as they are held

-- the status at a place in memory is the log's at that place
kept_at : (items : List held.PollStatus) (log : List PollStatus) (k : ℕ) (x : held.PollStatus) → map kept_status items ≡ log
    → x ≡ get_or items k x → k < length items → get_or log k (kept_status x) ≡ kept_status x
kept_at items log k x log_is there within = ap (λ l. get_or l k (kept_status x)) (sym log_is)
    ∙ get_or-map kept_status items k x (kept_status x) within ∙ ap kept_status (sym there)

-- a status that is replaced in memory is replaced in the log
pub kept-set : (items : List held.PollStatus) (log : List PollStatus) (k : ℕ) (x y : held.PollStatus) (moment : ℤ) (ok : Bool)
    → map kept_status items ≡ log → x ≡ get_or items k x → k < length log
    → kept_status y ≡ after (kept_status x) moment ok
    → map kept_status (set items k y) ≡ set log k (after (get_or log k (kept_status x)) moment ok)
kept-set items log k x y moment ok log_is there within changed =
    let inside : k < length items = omega (arith, ap length log_is, length-map items kept_status) in
    map-set kept_status items k y ∙ ap₂ (λ l s. set l k s) log_is (changed ∙ ap (λ s. after s moment ok) (sym (kept_at items log k x log_is there inside)))

-- what the log keeps for a domain is the status in memory at the domain's place
pub standing_in-held : (items : List held.PollStatus) (log : List PollStatus) (domain : List ℕ) (k : ℕ) (x : held.PollStatus)
    → map kept_status items ≡ log → IsLog log → slice_get (polled_domains log) k ≡ Some domain → x ≡ get_or items k x
    → k < length items
    → standing_in log domain ≡ Some (kept_status x)
standing_in-held items log domain k x log_is is at there within =
    standing_in-at log domain k (kept_status x) (rising_of log is) at
    ∙ ap Some (kept_at items log k x log_is there within)

-- a place that is given lies within
pub within_log : (log : List PollStatus) (k : ℕ) (domain : List ℕ) → slice_get (polled_domains log) k ≡ Some domain → k < length log
within_log [] k domain at = cc
within_log (s ∷ log) zero domain at = omega arith
within_log (s ∷ log) (suc k) domain at = omega (arith, within_log log k domain at)

-- ---- what is refused is not due

-- if there is no time for the next poll, none is due
not_due_after : (hint : Option ℕ) (failures : ℕ) (last : Option ℤ) (now : ℤ) (e : PollError)
    → IsNextAfter hint failures last (Err e) → IsDueAfter hint failures last now → ⊥
not_due_after hint failures None now e refused due = cc
not_due_after hint failures (Some last) now e refused due = refused.1 due.0

-- the same for a domain of which there may be no status
pub not_due : (hint : Option ℕ) (s : Option PollStatus) (now : ℤ) (e : PollError) → IsNext hint s (Err e) → IsPollDue hint s now → ⊥
not_due hint None now e refused due = due
not_due hint (Some s) now e refused due = not_due_after hint s.failures s.last now e refused due

-- the domain at a place is that of the status there
pub slice_get-domain : (log : List PollStatus) (k : ℕ) (s : PollStatus) → k < length log → slice_get (polled_domains log) k ≡ Some (get_or log k s).domain
slice_get-domain log k s within = slice_get-map (λ (x : PollStatus). x.domain) log k
    ∙ ap (option_map (λ (x : PollStatus). x.domain)) (slice_get-get_or log k s within)

-- the domains of a log are domain names
pub names_of : (log : List PollStatus) → IsLog log → AreNames (polled_domains log)
names_of log is = subst AreNames (sym (ap polled_domains is.is ∙ domains_of-log is.domains is.polls)) is.names
