use Rattle.std.proofs.Common.{ℤ, sym, subst}
use Rattle.std.specs.Int.{w64}
use Rattle.std.specs.Option.{MatchOption}
use Rattle.std.specs.Prelude.{Option}
use Rattle.std.proofs.lemmas.Int.{to_z-of_z}
use Rattle.poll_log.specs.Polling.{polled_domains}
use Rattle.poll_log.specs.PollLines.{SaysNoPoll}
use Rattle.poll_log.specs.Inside.PollSteps.{SaysFields}
use Rattle.poll_log.specs.declared.poll_lines.PollFields.{PollFields}
use Rattle.poll_log.proofs.PollLineFacts.{no_words, no_domain, no_outcome, no_seconds, states_parts}
use Rattle.poll_log.proofs.poll_lines.read_parts.Goals as goal

pub returns-in_err-domain : goal.returns-in_err-domain
returns-in_err-domain c =
    let P = λ (r : Option PollFields). MatchOption r (SaysNoPoll (polled_domains c.args.log.now) c.args.text.now)
    (SaysFields (polled_domains c.args.log.now) c.args.text.now) in
    subst P (sym c.from_residual.ensures) (no_words (polled_domains c.args.log.now) c.args.text.now c.in_err-domain.ensures)

pub returns-in_err-place : goal.returns-in_err-place
returns-in_err-place c =
    let P = λ (r : Option PollFields). MatchOption r (SaysNoPoll (polled_domains c.args.log.now) c.args.text.now)
    (SaysFields (polled_domains c.args.log.now) c.args.text.now) in
    subst P (sym c.from_residual-in_err-place.ensures)
    (no_domain (polled_domains c.args.log.now) c.args.text.now c.in_ok-domain.domain.now c.in_ok-domain.rest.now
    c.in_err-place.ensures.names c.in_ok-domain.ensures c.in_err-place.ensures.place)

pub returns-in_err-ok : goal.returns-in_err-ok
returns-in_err-ok c =
    let P = λ (r : Option PollFields). MatchOption r (SaysNoPoll (polled_domains c.args.log.now) c.args.text.now)
    (SaysFields (polled_domains c.args.log.now) c.args.text.now) in
    subst P (sym c.from_residual-in_err-ok.ensures)
    (no_outcome (polled_domains c.args.log.now) c.args.text.now c.in_ok-domain.domain.now c.in_ok-domain.rest.now
    c.in_ok-place.ensures.names c.in_ok-domain.ensures c.in_err-ok.ensures)

pub returns-in_err-seconds : goal.returns-in_err-seconds
returns-in_err-seconds c =
    let P = λ (r : Option PollFields). MatchOption r (SaysNoPoll (polled_domains c.args.log.now) c.args.text.now)
    (SaysFields (polled_domains c.args.log.now) c.args.text.now) in
    subst P (sym c.from_residual-in_err-seconds.ensures)
    (no_seconds (polled_domains c.args.log.now) c.args.text.now c.in_ok-domain.domain.now c.in_ok-domain.rest.now
    c.in_ok-place.ensures.names c.in_ok-domain.ensures
    c.in_ok-ok.ok c.in_ok-ok.seconds.now c.in_ok-ok.ensures c.in_err-seconds.ensures)

pub returns : goal.returns
returns c =
    let own = to_z-of_z w64 c.in_ok-seconds.seconds c.in_ok-seconds.ensures.1 in
    subst (λ (z : ℤ). SaysFields (polled_domains c.args.log.now) c.args.text.now
    (record { place = c.in_ok-place.place; ok = c.in_ok-ok.ok; seconds = z })) (sym own)
    (states_parts (polled_domains c.args.log.now) c.args.text.now c.in_ok-domain.domain.now c.in_ok-domain.rest.now c.in_ok-ok.seconds.now
    (record { place = c.in_ok-place.place; ok = c.in_ok-ok.ok; seconds = c.in_ok-seconds.seconds })
    c.in_ok-domain.ensures c.in_ok-place.ensures.place c.in_ok-ok.ensures c.in_ok-seconds.ensures.0 c.in_ok-seconds.ensures.1)
