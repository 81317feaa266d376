use Rattle.std.proofs.Common.{◌≡◌, [], Some, ap, subst}
use Rattle.std.specs.Prelude.{◌↔◌, IsNone}
use Rattle.replica_core.specs.declared.entry.Entry.TheVariants.{Receipt as AReceipt}
use Rattle.command_exits.specs.DeviceRuns.{DeviceRun}
use Rattle.fedbundle.specs.Observe.{Fetched}
use Rattle.local_answers.proofs.ChangingFacts.{observe_prevented}
use Rattle.local_answers.proofs.RequestFacts.{entry_journals, observe_taken, observe_untaken}
use Rattle.local_answers.proofs.ReportFacts.{observe_reports}
use Rattle.local_answers.proofs.changing_replies.observe.Goals as goal

pub returns-in-Err-clause-ends : goal.returns-in-Err-clause-ends
returns-in-Err-clause-ends g c =
    let before : c.new-source.result.reader.now ≡ c.args.input.now = cc in
    let source : DeviceRun = record {
      before = Some c.new-source.result.reader.now;
      after = Some c.prepare_observe.new.source.reader.now;
      had_failed = c.new-source.result.failed;
      has_failed = c.prepare_observe.new.source.failed;
    } in
    let fetched : Fetched = record { domain = c.args.domain.now; verdict = c.args.verdict.now } in
    observe_prevented (g.C.Closure.state c.args.closure.now) source c.args.input.now fetched c.in-Err.error _ c.in_memory.ensures
    (ap Some before) c.in-Err.ensures.refused

pub returns-in-Ok-take_observed-clause-answers : goal.returns-in-Ok-take_observed-clause-answers
returns-in-Ok-take_observed-clause-answers g c =
    let before : c.new-source.result.reader.now ≡ c.args.input.now = cc in
    let made = c.in-Ok.ensures.receipt in
    record {
      output = c.in-Ok.observed.line.items;
      answers = observe_taken _ _ _ _ _ c.in-Ok.observed.receipt _ (ap Some before) made
          (c.in-Ok-take_observed.ensures _ made.observation) c.in-Ok.ensures.line;
      head = c.in_ok-reply.ensures.head;
      is_output = c.in_ok-reply.ensures.output;
      errors = c.in_ok-reply.ensures.errors;
      status = c.in_ok-reply.ensures.status;
      continues = c.in_ok-reply.ensures.continues;
    }

pub returns-in-Ok-take_observed-clause-journals : goal.returns-in-Ok-take_observed-clause-journals
returns-in-Ok-take_observed-clause-journals g c = record {
  journals = entry_journals _ _ (AReceipt c.in-Ok.observed.receipt) _ c.in_ok-journal.ensures
      (c.in-Ok-take_observed.ensures _ c.in-Ok.ensures.receipt.observation).meaning;
  reports = observe_reports (g.C.Closure.state c.args.closure.now) (g.C.Closure.state c.take_observed.new.closure) c.in-Ok.observed.receipt _
      c.in_ok-made.made _ c.in_ok-journal.ensures c.in_ok-made.ensures.parts
      (subst (λ l. IsNone c.observed_change.result ↔ (l ≡ [])) c.as_slice.ensures.value c.observed_change.ensures.none)
      c.observed_change.ensures.made;
}

pub returns-in-Err-take_observed-clause-ends : goal.returns-in-Err-take_observed-clause-ends
returns-in-Err-take_observed-clause-ends g c =
    let before : c.new-source.result.reader.now ≡ c.args.input.now = cc in
    let made = c.in-Ok.ensures.receipt in
    observe_untaken _ _ _ _ _ c.in-Ok.observed.receipt c.in-Err-take_observed.why (ap Some before) made
    (c.in-Err-take_observed.ensures _ made.observation)
