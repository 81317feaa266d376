-- How domains are fetched
use Rattle.std.specs.Prelude.{◌≡◌, ℕ, ℤ, pos, int_div, List, Option}
use Rattle.std.specs.Option.{option_map}
use Rattle.std.specs.List.{AllZip}
use Rattle.receipt_core.specs.Acceptance.{Meaning}
use Rattle.poll_log.specs.Polling.{PollStatus, interval_of, success_in}
use Rattle.poll_view.specs.NextPolls.{IsHint}
use Rattle.status_warnings.specs.declared.seen.Fetch.{Fetch}

-- the second of a time in nanoseconds, rounded toward zero
abbrev pub second_of : ℤ → ℤ
second_of nanos = int_div nanos (pos 1000000000)

-- It is of the domain, with the second of its last poll that succeeded, if one did, and the
-- interval by the hint of its current document.
pub record IsFetch (m : Meaning) (log : List PollStatus) (domain : List ℕ)
    (f : Fetch) : Type 0 where
  pub of : f.domain ≡ domain
  pub fetched : f.fetched ≡ option_map second_of (success_in log domain)
  pub hint : Option ℕ
  pub is_hint : IsHint m domain hint
  pub wait : f.wait ≡ interval_of hint

-- one for each relationship, sorted by domain
abbrev pub AreFetches : Meaning → List PollStatus → List Fetch → Type 0
AreFetches m log fetches = AllZip (λ r f. IsFetch m log r.domain f) m.config.relationships fetches
