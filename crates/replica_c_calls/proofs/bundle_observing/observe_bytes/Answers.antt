use Rattle.std.proofs.Common.{ℕ, Result, Ok, Err, refl}
use Rattle.std.specs.Prelude.{MatchResult}
use Rattle.closure_core.specs.Changes.{HeldAndRoom}
use Rattle.bundle_view.specs.Observe.{FetchedBundle}
use Rattle.replica_c_calls.specs.Changes.{NamesFetched, ObservesNamed, RefusesNamed, ObservesFetched, HasRefusedFetched, fetched_for}
use Rattle.replica_c_calls.specs.declared.bundle_observing.FetchedBytes.{FetchedBytes}
use Rattle.replica_c_calls.specs.declared.bundle_observing.ObservedBytes.{ObservedBytes}
use Rattle.replica_c_calls.specs.declared.call_error.CallError.{CallError}
use Rattle.replica_c_calls.specs.declared.call_error.CallError.TheVariants.{Usage, Name, Document, Config, Line, Take, Observe, Sync, Full, NoMemory}
use Rattle.replica_c_calls.proofs.bundle_observing.observe_bytes.Goals as goal

-- what is so of the bundle that the bytes name is so of the bytes
named : (old new : HeldAndRoom) (bytes : FetchedBytes) (fetched : FetchedBundle) (room : ℕ) (r : Result ObservedBytes CallError)
    → NamesFetched bytes fetched → MatchResult r (ObservesNamed old fetched room new) (RefusesNamed old fetched new)
    → MatchResult r (ObservesFetched old (fetched_for bytes room) new) (HasRefusedFetched old bytes new)
named old new bytes fetched room (Ok observed) names is = record { fetched = fetched; names = names; is = is }
named old new bytes fetched room (Err Usage) names is = absurd is
named old new bytes fetched room (Err (Name e)) names is = absurd is
named old new bytes fetched room (Err (Document e)) names is = record { fetched = fetched; names = names; is = is }
named old new bytes fetched room (Err (Config e)) names is = record { fetched = fetched; names = names; is = is }
named old new bytes fetched room (Err (Line e)) names is = record { fetched = fetched; names = names; is = is }
named old new bytes fetched room (Err (Take e)) names is = record { fetched = fetched; names = names; is = is }
named old new bytes fetched room (Err (Observe why)) names is = record { fetched = fetched; names = names; is = is }
named old new bytes fetched room (Err (Sync e)) names is = record { fetched = fetched; names = names; is = is }
named old new bytes fetched room (Err Full) names is = record { fetched = fetched; names = names; is = is }
named old new bytes fetched room (Err NoMemory) names is = record { fetched = fetched; names = names; is = is }

pub returns : goal.returns
returns g c =
    let fetched : FetchedBundle = record { domain = c.in_ok-domain.domain; bytes = c.args.fetched.now.document.now; verdict = c.in_ok-verdict.verdict } in
    let names : NamesFetched c.args.fetched.now fetched =
    record {
      domain = c.in_ok-domain.ensures.0;
      form = rw c.in_ok-domain.ensures.0 c.in_ok-domain.ensures.1;
      verdict = c.in_ok-verdict.ensures;
      document = refl;
    } in
    named (g.C.Closure.state c.args.closure.now) (g.C.Closure.state c.observe_named.new.closure) c.args.fetched.now fetched c.args.room
    c.observe_named.result names c.observe_named.ensures
