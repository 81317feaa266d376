use Rattle.std.proofs.Common.{[], inl, inr, subst, sym}
use Rattle.std.proofs.lemmas.Result.{err_from_is_err_and}
use Rattle.local_answers.proofs.ChangingFacts.{distrust_refused}
use Rattle.fedbundle.specs.CommandRun.{state_run}
use Rattle.local_answers.specs.Fallen.{AreAcceptedCounts}
use Rattle.local_answers.specs.RequestRun.{HasBoth, SaysAll, unsaid_fall}
use Rattle.local_answers.specs.declared.reply.Reply.{Reply}
use Rattle.local_answers.proofs.ReportFacts.{distrust_journals, distrust_reports, says_all, says_unsaid}
use Rattle.local_answers.proofs.changing_replies.distrust.Goals.{in-Ok, in-Err}
use Rattle.local_answers.proofs.changing_replies.distrust.Goals as goal

pub returns-in_err-run_distrust-clause-ends : goal.returns-in_err-run_distrust-clause-ends
returns-in_err-run_distrust-clause-ends g c =
    let exit = err_from_is_err_and c.from_residual-in_err-run_distrust.result c.from_residual-in_err-run_distrust.ensures.1 in
    rw (exit.1, exit.2) (distrust_refused (g.C.Closure.state c.args.closure.now) (g.C.Closure.state c.run_distrust.new.closure)
    c.args.given c.in_err-run_distrust.field-0.0 c.in_err-run_distrust.ensures)

pub returns-clause-answers : goal.returns-clause-answers
returns-clause-answers g c =
    let old = g.C.Closure.state c.args.closure.now in
    let new = g.C.Closure.state c.run_distrust.new.closure in
    record {
      held = c.in_ok-run_distrust.ensures;
      says = elim c.match-said_now.branch [
        | in-Ok w ↦
            let all = says_all old new c.args.given c.args.sayings c.in_ok-named.named.items c.in_ok-errors.errors.items c.as_slice.result.now
            w.in-Ok.reply c.in_ok-errors.ensures c.in_ok-named.ensures
            (subst (AreAcceptedCounts old.meaning) (sym c.as_slice.ensures.value) c.in_ok-before.ensures) w.in-Ok.ensures in
            let said = subst (SaysAll (state_run old new) c.args.given c.args.sayings) (sym w.reply-is) all in
            inl (record {
              errors = said.errors;
              said = said.said;
              before = said.before;
              counted = said.counted;
              fell = said.fell;
              is_fell = said.is_fell;
              has = record {
                head = said.has.head;
                is_output = said.has.is_output;
                is_errors = said.has.is_errors;
                status = said.has.status;
                continues = said.has.continues;
              };
            })
        | in-Err w ↦
            let both = subst (λ (r : Reply). HasBoth r [] unsaid_fall) (sym w.reply-is)
            (says_unsaid c.in_ok-unsaid.unsaid _ _ c.new.ensures.items c.in_ok-unsaid_fall.ensures c.in_ok-unsaid.ensures) in
            inr (record {
              head = both.head;
              is_output = both.is_output;
              is_errors = both.is_errors;
              status = both.status;
              continues = both.continues;
            })
      ];
    }

pub returns-clause-journals : goal.returns-clause-journals
returns-clause-journals g c =
    let old = g.C.Closure.state c.args.closure.now in
    let new = g.C.Closure.state c.run_distrust.new.closure in
    record {
      journals = distrust_journals old new c.args.given _ _ c.in_ok-lines.ensures c.in_ok-run_distrust.ensures;
      reports = distrust_reports old new c.args.given.domain c.in_ok-lines.lines.keys.items _ _ c.in_ok-lines.ensures.lines.spelt
          c.distrusted_change.ensures.none c.distrusted_change.ensures.keys;
    }
