-- A log as the code holds it
use Rattle.std.specs.Prelude.{◌≡◌, ℕ, ◌+◌, min, ℤ, Bool, if◌then◌else◌, List, Contains, Option}
use Rattle.std.specs.Prelude.{Some, None, slice_get}
use Rattle.std.specs.Option.{option_map}
use Rattle.spiffe_name.specs.TrustDomain.{IsDomainText}
use Rattle.poll_log.specs.Polling.{PollStatus, nanos_of, polled_domains}
use Rattle.poll_log.specs.declared.log.PollStatus as held

abbrev pub kept_status : held.PollStatus → PollStatus
kept_status s = record {
  domain = s.domain;
  last = option_map nanos_of s.last;
  succeeded = option_map nanos_of s.succeeded;
  failures = s.failures;
}

-- what is kept after one more poll
abbrev pub after : PollStatus → ℤ → Bool → PollStatus
after s moment ok = record {
  domain = s.domain;
  last = Some moment;
  succeeded = if ok then Some moment else s.succeeded;
  failures = if ok then 0 else min s.failures 11 + 1;
}

abbrev pub AreNames : List (List ℕ) → Type 0
AreNames domains = (domain : List ℕ) → Contains domains domain → IsDomainText domain

-- the place of the domain among these, if it is one of them
abbrev pub IsIn : List (List ℕ) → List ℕ → Option ℕ → Type 0
IsIn domains domain None = Contains domains domain → ⊥
IsIn domains domain (Some place) = slice_get domains place ≡ Some domain

-- the place of the domain in the log, if it is there
abbrev pub IsPlaceOf : List PollStatus → List ℕ → Option ℕ → Type 0
IsPlaceOf log domain place = IsIn (polled_domains log) domain place
