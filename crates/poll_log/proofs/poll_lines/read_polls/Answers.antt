use Rattle.std.proofs.Common.{arith, subst, sym, rules}
use Rattle.std.specs.Io.KnownBytes.{prepend_known}
use Rattle.poll_log.specs.Polling.{polled}
use Rattle.poll_log.specs.Inside.PollSteps.{HasRead}
use Rattle.poll_log.proofs.PollReadFacts.{HasRead-none, HasRead-line, IsLogOf-end, RefusesPolls-cut, RefusesPolls-long}
use Rattle.poll_log.proofs.PollReadFacts.{RefusesPolls-record, IsAtEnd-source, own_domains}
use Rattle.std.proofs.lemmas.Result.{err_from_is_err_and}
use Rattle.poll_log.proofs.poll_lines.read_polls.Goals as goal

pub lines-init : goal.lines-init
lines-init g c = record {
  read = subst (λ ks. HasRead (polled c.args.config.now) (g.R.Source.remaining c.args.source.now)
      (prepend_known ks (g.R.Source.remaining c.args.source.now)) c.in_ok-log.log 0) (sym c.new-lines.ensures)
      (HasRead-none (polled c.args.config.now) (g.R.Source.remaining c.args.source.now) c.in_ok-log.log c.in_ok-log.ensures.log);
  below = search rules;
  fault = search rules;
}

pub lines-preserved : goal.lines-preserved
lines-preserved g c =
    let taken = rw (c.in_ok-text.was, c.in-Text.is) at c.next_line.follows.holds-at-none in
    let less = taken.falls (λ e. cc) in
    record {
      read = HasRead-line _ _ _ _ _ _ _ _ c.lines.invariant.read taken.finds.0 c.in_ok-record_line-in-Text.ensures;
      below = omega (arith, less);
      fault = search rules;
    }

pub returns-in_err-record_line-in-Text-clause-refused : goal.returns-in_err-record_line-in-Text-clause-refused
returns-in_err-record_line-in-Text-clause-refused g c =
    let taken = rw (c.in_ok-text.was, c.in-Text.is) at c.next_line.follows.holds-at-none in
    let p = err_from_is_err_and c.from_residual-in_err-record_line-in-Text.result c.from_residual-in_err-record_line-in-Text.ensures.1 in
    rw (p.1, p.2) (RefusesPolls-record _ _ _ _ _ c.record_line.new.log _ c.in-Text.text.now _ c.lines.invariant.read
    taken.finds.0 c.in_err-record_line-in-Text.ensures)

pub returns-in-TooLong-clause-refused : goal.returns-in-TooLong-clause-refused
returns-in-TooLong-clause-refused g c =
    let taken = rw (c.in_ok-text.was, c.in-TooLong.is) at c.next_line.follows.holds-at-none in
    let (text, line, long) = taken.finds in
    RefusesPolls-long c.args.config.now _ _ _ _ _ text c.in_ok-log.ensures.form c.lines.invariant.read line long

pub returns-in-Cut-clause-refused : goal.returns-in-Cut-clause-refused
returns-in-Cut-clause-refused g c =
    let taken = rw (c.in_ok-text.was, c.in-Cut.is) at c.next_line.follows.holds-at-none in
    RefusesPolls-cut _ _ _ _ _ c.lines.invariant.read taken.finds.0 taken.finds.1

pub returns-in-End-clause-domains : goal.returns-in-End-clause-domains
returns-in-End-clause-domains g c = own_domains _ _ _ _ _ c.lines.invariant.read

pub returns-in-End-clause-log : goal.returns-in-End-clause-log
returns-in-End-clause-log g c =
    let taken = rw (c.in_ok-text.was, c.in-End.is) at c.next_line.follows.holds-at-none in
    IsLogOf-end _ _ _ _ _ c.lines.invariant.read taken.finds.0

pub returns-in-End-clause-end : goal.returns-in-End-clause-end
returns-in-End-clause-end g c =
    let taken = rw (c.in_ok-text.was, c.in-End.is) at c.next_line.follows.holds-at-none in
    IsAtEnd-source _ _ taken.finds.1
