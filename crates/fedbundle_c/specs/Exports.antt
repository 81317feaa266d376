-- What each export does to a handle, to the buffer that it writes and to what it returns.
use Rattle.std.specs.Prelude.{◌≡◌, ℕ, ℤ, ◌⊎◌, List, length, Option, Some, None, Result, Ok, Err}
use Rattle.std.specs.Prelude.{MatchResult, MatchOption}
use Rattle.bundle_view.specs.Report.{IsReport}
use Rattle.closure_core.specs.declared.outcome.Taken.{Taken}
use Rattle.closure_core.specs.declared.outcome.Taken.TheVariants.{New as TakenNew}
use Rattle.closure_core.specs.declared.outcome.Taken.TheVariants.{Already as TakenAlready}
use Rattle.closure_core.specs.declared.outcome.Distrusted.{Distrusted}
use Rattle.closure_core.specs.declared.outcome.Distrusted.TheVariants.{New as DistrustedNew}
use Rattle.closure_core.specs.declared.outcome.Distrusted.TheVariants.{Already as DistrustedAlready}
use Rattle.receipt_core.specs.Acceptance.{Meaning}
use Rattle.closure_core.specs.Changes.{HeldAndRoom}
use Rattle.replica_core.specs.Session.{have_of}
use Rattle.replica_texts.specs.Messages.{have_text}
use Rattle.replica_texts.specs.WrittenSnapshot.{written_snapshot}
use Rattle.replica_c_calls.specs.CallErrors.{IsWantOfMemory, RefusesDomainText}
use Rattle.replica_c_calls.specs.Changes.{TakesLineBytes, HasRefusedLineBytes, DistrustsBytes}
use Rattle.replica_c_calls.specs.Changes.{key_bytes}
use Rattle.replica_c_calls.specs.Changes.{HasRefusedKeyBytes, MergesBytes, HasRefusedSnapshotBytes}
use Rattle.replica_c_calls.specs.Changes.{AbsorbsBytes, HasRefusedGiveBytes, ObservesFetched}
use Rattle.replica_c_calls.specs.Changes.{fetched_for}
use Rattle.replica_c_calls.specs.Changes.{HasRefusedFetched}
use Rattle.replica_c_calls.specs.Opening.{OpensBytes, RefusesOpening}
use Rattle.replica_c_calls.specs.Outcomes.{Refuses, ReturnsDone, ReturnsAlready, ReturnsNeedsRoom}
use Rattle.replica_c_calls.specs.Outcomes.{CountsNone, FitsOut, WritesOut, LacksOut, RefusesOut}
use Rattle.replica_c_calls.specs.Outcomes.{OutRun, out_run}
use Rattle.replica_c_calls.specs.Texts.{HasNoCurrentBundle, IsCurrentBundle, IsNotAccepted}
use Rattle.replica_c_calls.specs.Texts.{HasChainText, RefusesDocumentBytes, AnswersBytes}
use Rattle.replica_c_calls.specs.Texts.{RefusesHaveBytes}
use Rattle.replica_c_calls.specs.declared.bundle_observing.FetchedBytes.{FetchedBytes}
use Rattle.replica_c_calls.specs.declared.bundle_observing.ObservedBytes.{ObservedBytes}
use Rattle.replica_c_calls.specs.declared.bundle_observing.ObservedBytes.TheVariants.{Held}
use Rattle.replica_c_calls.specs.declared.bundle_observing.ObservedBytes.TheVariants.{NeedsRoom}
use Rattle.replica_c_calls.specs.declared.call_error.CallError.{CallError}
use Rattle.replica_c_calls.specs.declared.call_error.CallError.TheVariants.{Usage}
use Rattle.fedbundle_c.specs.declared.held_replica.Replica.{Replica}

-- ---- handles

-- what the replica of a handle holds
abbrev pub state_in : Replica → HeldAndRoom
state_in replica = replica.closure.state

abbrev pub meaning_in : Replica → Meaning
meaning_in replica = (state_in replica).meaning

-- It holds a replica of the configuration, with what the snapshot has.
pub record HasOpened (config snapshot : List ℕ) (new : Option Replica)
    (returned : ℤ) : Type 0 where
  pub replica : Replica
  pub is : new ≡ Some replica
  pub opens : OpensBytes config snapshot (meaning_in replica)
  pub done : ReturnsDone returned

-- The bytes are refused, for this cause, and it remains closed.
pub record HasNotOpened (config snapshot : List ℕ) (new : Option Replica)
    (returned : ℤ) : Type 0 where
  pub error : CallError
  pub cause : RefusesOpening config snapshot error
  pub closed : new ≡ None
  pub refused : Refuses error returned

-- It is open already: the call is refused, and it keeps what it holds.
pub record WasOpen (held : Replica) (new : Option Replica) (returned : ℤ) : Type 0 where
  pub same : new ≡ Some held
  pub refused : Refuses Usage returned

abbrev pub OpensHandle : Option Replica → List ℕ → List ℕ → Option Replica → ℤ → Type 0
OpensHandle old config snapshot new returned =
    MatchOption old
    (HasOpened config snapshot new returned ⊎ HasNotOpened config snapshot new returned)
    (λ held. WasOpen held new returned)

-- ---- what changes a replica

-- a handle before and after, what the call counts or how many bytes its text has, and what it
-- returned
pub record HandleRun : Type 0 where
  pub old : Option Replica
  pub new : Option Replica
  pub said : ℕ
  pub returned : ℤ

-- The handle is closed: the call is refused, counts nothing, and the handle remains closed.
pub record IsUsedClosed (run : HandleRun) : Type 0 where
  pub closed : run.new ≡ None
  pub refused : CountsNone Usage run.said run.returned

-- what is said of a receipt
abbrev pub SaysOfReceipt : Result Taken CallError → ℕ → ℤ → Type 0
SaysOfReceipt (Ok (TakenNew n)) said returned = (said ≡ n) × ReturnsDone returned
SaysOfReceipt (Ok TakenAlready) said returned = (said ≡ 0) × ReturnsAlready returned
SaysOfReceipt (Err e) said returned = CountsNone e said returned

-- what is said of a record
abbrev pub SaysOfRecord : Result Distrusted CallError → ℕ → ℤ → Type 0
SaysOfRecord (Ok (DistrustedNew n)) said returned = (said ≡ n) × ReturnsDone returned
SaysOfRecord (Ok DistrustedAlready) said returned = (said ≡ 0) × ReturnsAlready returned
SaysOfRecord (Err e) said returned = CountsNone e said returned

-- what is said of a number of receipts
abbrev pub SaysOfNumber : Result ℕ CallError → ℕ → ℤ → Type 0
SaysOfNumber (Ok n) said returned = (said ≡ n) × ReturnsDone returned
SaysOfNumber (Err e) said returned = CountsNone e said returned

-- The line was taken or refused, and that is said.
pub record HasTakenLine (held : Replica) (line : List ℕ) (run : HandleRun) : Type 0 where
  pub after : Replica
  pub is : run.new ≡ Some after
  pub outcome : Result Taken CallError
  pub takes : MatchResult outcome
      (TakesLineBytes (state_in held) line (state_in after))
      (HasRefusedLineBytes (state_in held) line (state_in after))
  pub says : SaysOfReceipt outcome run.said run.returned

abbrev pub TakesByHandle : HandleRun → List ℕ → Type 0
TakesByHandle run line = MatchOption run.old (IsUsedClosed run)
    (λ held. HasTakenLine held line run)

-- The key was distrusted or refused, and that is said.
pub record HasDistrustedKey (held : Replica) (domain key : List ℕ)
    (run : HandleRun) : Type 0 where
  pub after : Replica
  pub is : run.new ≡ Some after
  pub outcome : Result Distrusted CallError
  pub distrusts : MatchResult outcome
      (DistrustsBytes (meaning_in held) (key_bytes domain key) (meaning_in after))
      (HasRefusedKeyBytes (meaning_in held) (key_bytes domain key) (meaning_in after))
  pub says : SaysOfRecord outcome run.said run.returned

abbrev pub DistrustsByHandle : HandleRun → List ℕ → List ℕ → Type 0
DistrustsByHandle run domain key = MatchOption run.old (IsUsedClosed run)
    (λ held. HasDistrustedKey held domain key run)

-- The snapshot was merged or refused, and that is said.
pub record HasMergedSnapshot (held : Replica) (snapshot : List ℕ) (run : HandleRun) : Type 0 where
  pub after : Replica
  pub is : run.new ≡ Some after
  pub outcome : Result ℕ CallError
  pub merges : MatchResult outcome
      (MergesBytes (state_in held) snapshot (state_in after))
      (HasRefusedSnapshotBytes (state_in held) snapshot (state_in after))
  pub says : SaysOfNumber outcome run.said run.returned

abbrev pub MergesByHandle : HandleRun → List ℕ → Type 0
MergesByHandle run snapshot = MatchOption run.old (IsUsedClosed run)
    (λ held. HasMergedSnapshot held snapshot run)

-- The answer was absorbed or refused, and that is said.
pub record HasAbsorbedAnswer (held : Replica) (answered : List ℕ) (run : HandleRun) : Type 0 where
  pub after : Replica
  pub is : run.new ≡ Some after
  pub outcome : Result ℕ CallError
  pub absorbs : MatchResult outcome
      (AbsorbsBytes (meaning_in held) answered (meaning_in after))
      (HasRefusedGiveBytes (state_in held) answered (meaning_in after))
  pub says : SaysOfNumber outcome run.said run.returned

abbrev pub AbsorbsByHandle : HandleRun → List ℕ → Type 0
AbsorbsByHandle run answered = MatchOption run.old (IsUsedClosed run)
    (λ held. HasAbsorbedAnswer held answered run)

-- ---- what is shown

-- a buffer before and after
pub record BufferRun : Type 0 where
  pub before : List ℕ
  pub after : List ℕ

-- what a caller reads of a call
abbrev pub out_of : BufferRun → HandleRun → OutRun
out_of buffer run = out_run buffer.before buffer.after run.said run.returned

-- The handle is closed: the call is refused, the handle remains closed, and the buffer is as it
-- was.
pub record IsShownClosed (buffer : BufferRun) (run : HandleRun) : Type 0 where
  pub closed : run.new ≡ None
  pub refused : RefusesOut Usage (out_of buffer run)

-- A text of which this holds is written, or there is no room for it.
pub record PutsText (P : List ℕ → Type 0) (buffer : BufferRun) (run : HandleRun) : Type 0 where
  pub text : List ℕ
  pub is : P text
  pub written : WritesOut text (out_of buffer run)

-- There is no text, for this cause, and the buffer is as it was.
pub record PutsFault (Q : CallError → Type 0) (buffer : BufferRun) (run : HandleRun) : Type 0 where
  pub error : CallError
  pub cause : Q error
  pub refused : RefusesOut error (out_of buffer run)

-- The handle keeps what it holds, and one of the two is so.
pub record PutsOfHeld (held : Replica) (P : List ℕ → Type 0) (Q : CallError → Type 0)
    (buffer : BufferRun) (run : HandleRun) : Type 0 where
  pub same : run.new ≡ Some held
  pub puts : PutsText P buffer run ⊎ PutsFault Q buffer run

abbrev pub PutsByHandle : (Meaning → List ℕ → Type 0) → (Meaning → CallError → Type 0) → BufferRun
    → HandleRun → Type 0
PutsByHandle P Q buffer run = MatchOption run.old (IsShownClosed buffer run)
    (λ held. PutsOfHeld held (P (meaning_in held)) (Q (meaning_in held)) buffer run)

abbrev pub ReportsByHandle : BufferRun → HandleRun → Type 0
ReportsByHandle = PutsByHandle IsReport (λ m. IsWantOfMemory)

abbrev pub SnapshotsByHandle : BufferRun → HandleRun → Type 0
SnapshotsByHandle = PutsByHandle (λ m text. text ≡ written_snapshot m) (λ m. IsWantOfMemory)

abbrev pub HavesByHandle : ℕ → BufferRun → HandleRun → Type 0
HavesByHandle bucket = PutsByHandle (λ m text. text ≡ have_text (have_of m bucket))
    (λ m. IsWantOfMemory)

abbrev pub AnswersByHandle : List ℕ → BufferRun → HandleRun → Type 0
AnswersByHandle asked = PutsByHandle (λ m. AnswersBytes m asked) (λ m. RefusesHaveBytes m asked)

-- ---- a bundle that was fetched

-- what is said of it, and written
abbrev pub SaysOfFetched : Result ObservedBytes CallError → BufferRun → HandleRun → Type 0
SaysOfFetched (Ok (Held text)) buffer run = FitsOut text.items (out_of buffer run)
SaysOfFetched (Ok (NeedsRoom needed)) buffer run = (buffer.after ≡ buffer.before)
    × (run.said ≡ needed) × ReturnsNeedsRoom run.returned
SaysOfFetched (Err e) buffer run = RefusesOut e (out_of buffer run)

-- It was observed or refused, and that is said.
pub record HasObservedFetched (held : Replica) (fetched : FetchedBytes) (buffer : BufferRun)
    (run : HandleRun) : Type 0 where
  pub after : Replica
  pub is : run.new ≡ Some after
  pub outcome : Result ObservedBytes CallError
  pub observes : MatchResult outcome
      (ObservesFetched (state_in held) (fetched_for fetched (length buffer.before))
      (state_in after))
      (HasRefusedFetched (state_in held) fetched (state_in after))
  pub says : SaysOfFetched outcome buffer run

abbrev pub ObservesByHandle : FetchedBytes → BufferRun → HandleRun → Type 0
ObservesByHandle fetched buffer run = MatchOption run.old (IsShownClosed buffer run)
    (λ held. HasObservedFetched held fetched buffer run)

-- ---- what there may be none of

-- There is no text, and the buffer is as it was.
pub record PutsNone (N : Type 0) (buffer : BufferRun) (run : HandleRun) : Type 0 where
  pub absent : N
  pub none : LacksOut (out_of buffer run)

pub record FindsHeld (held : Replica) (N : Type 0) (P : List ℕ → Type 0) (Q : CallError → Type 0)
    (buffer : BufferRun) (run : HandleRun) : Type 0 where
  pub same : run.new ≡ Some held
  pub puts : PutsNone N buffer run ⊎ (PutsText P buffer run ⊎ PutsFault Q buffer run)

abbrev pub FindsByHandle : (Meaning → Type 0) → (Meaning → List ℕ → Type 0) → (CallError → Type 0)
    → BufferRun → HandleRun → Type 0
FindsByHandle N P Q buffer run = MatchOption run.old (IsShownClosed buffer run)
    (λ held. FindsHeld held (N (meaning_in held)) (P (meaning_in held)) Q buffer run)

abbrev pub CurrentByHandle : List ℕ → BufferRun → HandleRun → Type 0
CurrentByHandle domain = FindsByHandle (λ m. HasNoCurrentBundle m domain)
    (λ m. IsCurrentBundle m domain) (RefusesDomainText domain)

abbrev pub ExplainsByHandle : List ℕ → List ℕ → BufferRun → HandleRun → Type 0
ExplainsByHandle domain document = FindsByHandle (λ m. IsNotAccepted m domain document)
    (λ m. HasChainText m domain document) (RefusesDocumentBytes domain document)
