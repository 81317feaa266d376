-- When each domain is polled next
use Rattle.std.specs.Prelude.{◌≡◌, ℕ, ℤ, List, Option, Some, None, Result, Ok, Err}
use Rattle.std.specs.List.{AllZip}
use Rattle.bundle_doc.specs.Bundle.{Bundle}
use Rattle.receipt_core.specs.Acceptance.{Meaning}
use Rattle.bundle_view.specs.Current.{IsCurrent}
use Rattle.poll_log.specs.Polling.{PollStatus, IsPollDue, IsNext, polled, standing_in}
use Rattle.poll_log.specs.declared.error.PollError.TheVariants.{PastRange as RangeLeft}
use Rattle.poll_view.specs.declared.domain_polls.DomainPoll.{DomainPoll}
use Rattle.poll_view.specs.declared.domain_polls.NextPoll.{NextPoll}
use Rattle.poll_view.specs.declared.domain_polls.NextPoll.TheVariants.{Due, At, PastRange}

-- the refresh hint of a document, if there is one (SPIFFE Trust Domain and Bundle, section 4.1.2)
abbrev pub hint_of : Option Bundle → Option ℕ
hint_of None = None
hint_of (Some b) = b.hint

-- the hint of the domain's current document
abbrev pub IsHint : Meaning → List ℕ → Option ℕ → Type 0
IsHint m domain hint = (current : Option Bundle) × IsCurrent m domain current
    × (hint ≡ hint_of current)

-- Now, at a later time, or past the range of times
abbrev pub IsNextPoll : Option ℕ → Option PollStatus → ℤ → NextPoll → Type 0
IsNextPoll hint s now Due = IsPollDue hint s now
IsNextPoll hint s now (At t) = (IsPollDue hint s now → ⊥) × IsNext hint s (Ok (Some t))
IsNextPoll hint s now PastRange = IsNext hint s (Err RangeLeft)

-- what the next polls follow from: what is held, the log of the polls so far, and the time
pub record PollView : Type 0 where
  pub meaning : Meaning
  pub log : List PollStatus
  pub now : ℤ

-- It is of the domain, and says when that is polled next.
pub record IsDomainPoll (view : PollView) (domain : List ℕ) (p : DomainPoll) : Type 0 where
  pub of : p.domain ≡ domain
  pub hint : Option ℕ
  pub is_hint : IsHint view.meaning domain hint
  pub is_next : IsNextPoll hint (standing_in view.log domain) view.now p.next

-- one for each relationship, sorted by domain
abbrev pub AreNextPolls : PollView → List DomainPoll → Type 0
AreNextPolls view polls = AllZip (IsDomainPoll view) (polled view.meaning.config) polls
