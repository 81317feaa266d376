-- When a domain's bundle is polled again, and what is kept of the polls that were made
use Rattle.std.specs.Prelude.{◌≡◌, ℕ, zero, suc, ◌*◌, ◌^◌, min, max, ℤ, pos, ◌+ℤ◌, ◌≤ℤ◌, ⊤, Bool}
use Rattle.std.specs.Prelude.{not, List, ◌∷◌, [], ◌++◌, map, filter, reverse, find, bytes_eq}
use Rattle.std.specs.Prelude.{Contains, Option, Some, None, Result, MatchResult, Ok, Err}
use Rattle.std.specs.Prelude.{option_and_then}
use Rattle.std.specs.List.{suffix_len}
use Rattle.std.specs.List.Sorted.{IsStrictlySortedBy}
use Rattle.jiff.specs.Words.{IsTimestampNanos}
use Rattle.jiff.specs.Types.{Timestamp}
use Rattle.spiffe_name.specs.TrustDomain.{IsDomainText}
use Rattle.fed_config.specs.Configuration.{Configuration, domain_cmp}
use Rattle.poll_log.specs.declared.error.PollError.{PollError}
use Rattle.poll_log.specs.declared.error.PollError.TheVariants.{NoRelationship, PastRange}

-- ---- waiting

-- Seconds from one poll to the next (SPIFFE Trust Domain and Bundle, section 4.1.2): those of the
-- refresh hint, but at least a minute and at most a day; five minutes without a hint.
abbrev pub interval_of : Option ℕ → ℕ
interval_of None = 300
interval_of (Some hint) = max 60 (min hint 86400)

-- Seconds from the last poll to the next, after this many that failed in a row: 30 after one,
-- doubled by each of the next eleven, and never more than the interval.
abbrev pub wait_of : Option ℕ → ℕ → ℕ
wait_of hint zero = interval_of hint
wait_of hint (suc more) = min (interval_of hint) (30 * 2 ^ min more 11)

-- ---- polls

-- the bundle of a domain was asked for, at a time in nanoseconds since the Unix epoch, and was had
-- or was not
pub record Poll : Type 0 where
  pub domain : List ℕ
  pub moment : ℤ
  pub ok : Bool

abbrev pub is_of_domain : List ℕ → Poll → Bool
is_of_domain domain p = bytes_eq p.domain domain

abbrev pub has_failed : Poll → Bool
has_failed p = not p.ok

abbrev pub has_succeeded : Poll → Bool
has_succeeded p = p.ok

abbrev pub polls_of : List ℕ → List Poll → List Poll
polls_of domain polls = filter (is_of_domain domain) polls

-- the time of the first of them, if there is any
abbrev pub first_moment : List Poll → Option ℤ
first_moment [] = None
first_moment (p ∷ others) = Some p.moment

abbrev pub last_moment : List Poll → Option ℤ
last_moment polls = first_moment (reverse polls)

-- ---- a log

-- what is kept of a domain's polls
pub record PollStatus : Type 0 where
  pub domain : List ℕ
  pub last : Option ℤ
  pub succeeded : Option ℤ
  pub failures : ℕ

-- the time of the last one, if there was any, and of the last one that succeeded, if any did, and
-- how many failed in a row up to the last one, counted to twelve
abbrev pub standing_of : List Poll → List ℕ → PollStatus
standing_of polls domain = record {
  domain = domain;
  last = last_moment (polls_of domain polls);
  succeeded = last_moment (filter has_succeeded (polls_of domain polls));
  failures = min 12 (suffix_len has_failed (polls_of domain polls));
}

-- the log of polls: what is kept for each of these domains
abbrev pub log_of : List (List ℕ) → List Poll → List PollStatus
log_of domains polls = map (standing_of polls) domains

abbrev pub polled_domains : List PollStatus → List (List ℕ)
polled_domains log = map (λ s. s.domain) log

-- the domains that are polled: those with a relationship
abbrev pub polled : Configuration → List (List ℕ)
polled c = map (λ r. r.domain) c.relationships

-- a log of some polls
pub record IsLog (log : List PollStatus) : Type 0 where
  pub domains : List (List ℕ)
  pub rising : IsStrictlySortedBy domain_cmp domains
  pub names : (domain : List ℕ) → Contains domains domain → IsDomainText domain
  pub polls : List Poll
  pub is : log ≡ log_of domains polls

-- the log of any polls became that of the same polls with one more after them
abbrev pub RecordsPoll : List PollStatus → Poll → List PollStatus → Type 0
RecordsPoll old p new = (domains : List (List ℕ)) (polls : List Poll) → old ≡ log_of domains polls
    → new ≡ log_of domains (polls ++ p ∷ [])

-- what `record` does: refused only if the log has no such domain, and then it is as it was
abbrev pub Records : List PollStatus → Poll → List PollStatus → Result (Unit {0}) PollError → Type 0
Records old p new (Ok _) = Contains (polled_domains old) p.domain × RecordsPoll old p new
Records old p new (Err e) = (e ≡ NoRelationship) × (Contains (polled_domains old) p.domain → ⊥)
    × (new ≡ old)

-- ---- what is kept of one domain

-- what is kept for the domain, if it is polled
abbrev pub standing_in : List PollStatus → List ℕ → Option PollStatus
standing_in log domain = find (λ s. bytes_eq s.domain domain) log

-- when a poll of the domain succeeded last, if it is polled and one did
abbrev pub success_in : List PollStatus → List ℕ → Option ℤ
success_in log domain = option_and_then (λ s. s.succeeded) (standing_in log domain)

abbrev pub nanos_of : Timestamp → ℤ
nanos_of t = t.nanosecond

-- ---- the next poll

-- the last time plus the wait, in nanoseconds since the Unix epoch
abbrev pub next_nanos : Option ℕ → ℕ → ℤ → ℤ
next_nanos hint failures last = last +ℤ pos (wait_of hint failures * 1000000000)

abbrev pub IsMoment : Option Timestamp → ℤ → Type 0
IsMoment None n = ⊥
IsMoment (Some t) n = t.nanosecond ≡ n

-- what `next_poll` answers after a poll: a time, refused only if it is past the range of times; and
-- without a poll: none
abbrev pub IsNextAfter : Option ℕ → ℕ → Option ℤ → Result (Option Timestamp) PollError → Type 0
IsNextAfter hint failures None r = r ≡ Ok None
IsNextAfter hint failures (Some last) r =
    MatchResult r (λ next. IsMoment next (next_nanos hint failures last))
    (λ e. (e ≡ PastRange) × (IsTimestampNanos (next_nanos hint failures last) → ⊥))

abbrev pub IsNext : Option ℕ → Option PollStatus → Result (Option Timestamp) PollError → Type 0
IsNext hint None r = r ≡ Err NoRelationship
IsNext hint (Some s) r = IsNextAfter hint s.failures s.last r

-- whether a poll is due at a time: none was made, or the next one is not later; one past the range
-- never is
abbrev pub IsDueAfter : Option ℕ → ℕ → Option ℤ → ℤ → Type 0
IsDueAfter hint failures None now = ⊤
IsDueAfter hint failures (Some last) now = IsTimestampNanos (next_nanos hint failures last)
    × (next_nanos hint failures last ≤ℤ now)

abbrev pub IsPollDue : Option ℕ → Option PollStatus → ℤ → Type 0
IsPollDue hint None now = ⊥
IsPollDue hint (Some s) now = IsDueAfter hint s.failures s.last now
