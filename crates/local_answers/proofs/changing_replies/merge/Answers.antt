use Rattle.std.proofs.Common.{◌≡◌, ℕ, [], Some, ap, arith, subst, sym}
use Rattle.std.specs.Prelude.{◌↔◌, IsNone}
use Rattle.fed_config.specs.Configuration.{Configuration}
use Rattle.replica_texts.specs.Snapshots.{IsSnapshot, RefusesSnapshot}
use Rattle.fedbundle.specs.CommandRun.{state_run}
use Rattle.command_exits.specs.DeviceRuns.{DeviceRun}
use Rattle.local_answers.specs.RequestRun.{EndsMerge, change_run}
use Rattle.local_answers.proofs.ChangingFacts.{source_failed}
use Rattle.local_answers.proofs.RequestFacts.{merge_journals, merge_taken, merge_unread, merge_untaken}
use Rattle.local_answers.proofs.ReportFacts.{merge_reports, merged_counts, records_stay}
use Rattle.local_answers.proofs.changing_replies.merge.Goals as goal

pub returns-in-Err-clause-ends : goal.returns-in-Err-clause-ends
returns-in-Err-clause-ends g c =
    let before : c.new-source.result.reader.now ≡ c.args.input.now = cc in
    let source : DeviceRun = record {
      before = Some c.new-source.result.reader.now;
      after = Some c.read_snapshot.new.source.reader.now;
      had_failed = c.new-source.result.failed;
      has_failed = c.read_snapshot.new.source.failed;
    } in
    let old = g.C.Closure.state c.args.closure.now in
    subst (EndsMerge (change_run (state_run old old) c.args.input.now)) (sym c.unread.ensures)
    (merge_unread old source c.args.input.now c.in-Err.why (ap Some before)
    (subst (λ (k : Configuration). RefusesSnapshot k source.before c.in-Err.why) c.config.ensures.config c.in-Err.ensures.refused)
    (source_failed ℕ c.in-Err.why _ _ c.in-Err.ensures.fault))

pub returns-in-Ok-merge-clause-answers : goal.returns-in-Ok-merge-clause-answers
returns-in-Ok-merge-clause-answers g c =
    let before : c.new-source.result.reader.now ≡ c.args.input.now = cc in
    let source : DeviceRun = record {
      before = Some c.new-source.result.reader.now;
      after = Some c.read_snapshot.new.source.reader.now;
      had_failed = c.new-source.result.failed;
      has_failed = c.read_snapshot.new.source.failed;
    } in
    let old = g.C.Closure.state c.args.closure.now in
    let other = (g.C.Closure.state c.in-Ok.other).meaning in
    record {
      output = c.in_ok-count_line.field-0.items;
      answers = merge_taken old (g.C.Closure.state c.merge.new.self) source c.args.input.now other _ _ _ _ (ap Some before)
          (subst (λ (k : Configuration). IsSnapshot k source.before other) c.config.ensures.config c.in-Ok.ensures.ok)
          c.in-Ok.ensures.ends c.in_ok-new.ensures c.in-Ok-merge.ensures c.in_ok-count_line.ensures;
      head = c.in_ok-reply.ensures.head;
      is_output = c.in_ok-reply.ensures.output;
      errors = c.in_ok-reply.ensures.errors;
      status = c.in_ok-reply.ensures.status;
      continues = c.in_ok-reply.ensures.continues;
    }

pub overflow_sub-entries : goal.overflow_sub-entries
overflow_sub-entries g c =
    omega (
      arith,
      c.record_count-records.ensures,
      c.record_count.ensures,
      records_stay (g.C.Closure.state c.args.closure.now) (g.C.Closure.state c.merge.new.self) _ _ c.in-Ok-merge.ensures,
    )

pub returns-in-Ok-merge-clause-journals : goal.returns-in-Ok-merge-clause-journals
returns-in-Ok-merge-clause-journals g c =
    let old = g.C.Closure.state c.args.closure.now in
    let new = g.C.Closure.state c.merge.new.self in
    record {
      journals = merge_journals _ _ _ _ _ _ c.in_ok-new.ensures c.in-Ok-merge.ensures;
      reports = merge_reports old new _ _ _
          (subst (λ l. IsNone c.merged_change.result ↔ (l ≡ [])) c.as_slice.ensures.value c.merged_change.ensures.none)
          c.merged_change.ensures.merged
          (merged_counts old new (g.C.Closure.state c.in-Ok.other).meaning _ _ _ _ c.in_ok-new.ensures c.in-Ok-merge.ensures
          (omega (arith, c.record_count-records.ensures, c.record_count.ensures, records_stay old new _ _ c.in-Ok-merge.ensures)));
    }

pub returns-clause-ends : goal.returns-clause-ends
returns-clause-ends g c =
    let before : c.new-source.result.reader.now ≡ c.args.input.now = cc in
    let source : DeviceRun = record {
      before = Some c.new-source.result.reader.now;
      after = Some c.read_snapshot.new.source.reader.now;
      had_failed = c.new-source.result.failed;
      has_failed = c.read_snapshot.new.source.failed;
    } in
    let other = (g.C.Closure.state c.in-Ok.other).meaning in
    merge_untaken (g.C.Closure.state c.args.closure.now) (g.C.Closure.state c.merge.new.self) source c.args.input.now other c.in-Err-merge.why
    (ap Some before) (subst (λ (k : Configuration). IsSnapshot k source.before other) c.config.ensures.config c.in-Ok.ensures.ok)
    c.in-Err-merge.ensures
