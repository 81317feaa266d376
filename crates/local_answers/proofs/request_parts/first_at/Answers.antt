use Rattle.std.proofs.Common.{◌+◌, ◌-◌, drop, length, subst, take}
use Rattle.std.proofs.lemmas.Result.{err_from_is_err_and}
use Rattle.std.specs.Prelude.{MatchOption}
use Rattle.local_answers.specs.Inside.StreamSteps.{AwaitsInput, HasInput, RefusesLength}
use Rattle.local_answers.proofs.PartFacts.{awaits_input, came_after, refuses_input, refuses_words, split_at}
use Rattle.local_answers.proofs.request_parts.first_at.Goals as goal

pub returns-in_err-count : goal.returns-in_err-count
returns-in_err-count c =
    let exit = err_from_is_err_and c.from_residual-in_err-count.result c.from_residual-in_err-count.ensures.1 in
    let bytes = c.args.bytes.now in
    let feed = c.args.feed in
    rw (exit.1, exit.2) (refuses_input bytes (take feed bytes) (drop (feed + 1) bytes) c.in_ok-line.line.words.now (split_at bytes feed c.requires)
    c.args.state c.in_ok-line.line.input c.in_err-count.field-0.0 c.in_ok-line.ensures
    (subst (λ n. RefusesLength c.args.state c.in_ok-line.line.input n c.in_err-count.field-0.0) (came_after bytes feed) c.in_err-count.ensures))

pub returns-in_err-read_request_words-in-Some : goal.returns-in_err-read_request_words-in-Some
returns-in_err-read_request_words-in-Some c =
    let exit = err_from_is_err_and c.from_residual-in_err-read_request_words-in-Some.result c.from_residual-in_err-read_request_words-in-Some.ensures.1 in
    let bytes = c.args.bytes.now in
    let feed = c.args.feed in
    let state = c.args.state in
    let end = c.in_ok-line.line.input in
    let came = length bytes - (feed + 1) in
    let has : HasInput state end came c.in-Some.count =
    subst (λ o. MatchOption o (AwaitsInput state end came) (HasInput state end came)) c.in-Some.is c.in_ok-count.ensures in
    rw (exit.1, exit.2) (refuses_words state bytes (take feed bytes) (drop (feed + 1) bytes) c.in_ok-line.line.words.now end c.in-Some.count
    (split_at bytes feed c.requires) c.in_ok-line.ensures (subst (λ n. HasInput state end n c.in-Some.count) (came_after bytes feed) has)
    c.in_err-read_request_words-in-Some.field-0.0 c.in_err-read_request_words-in-Some.ensures)

pub returns-in-None : goal.returns-in-None
returns-in-None c =
    let bytes = c.args.bytes.now in
    let feed = c.args.feed in
    let state = c.args.state in
    let end = c.in_ok-line.line.input in
    let came = length bytes - (feed + 1) in
    let awaits : AwaitsInput state end came =
    subst (λ o. MatchOption o (AwaitsInput state end came) (HasInput state end came)) c.in-None.is c.in_ok-count.ensures in
    awaits_input bytes (take feed bytes) (drop (feed + 1) bytes) c.in_ok-line.line.words.now (split_at bytes feed c.requires) state end
    c.in_ok-line.ensures (subst (AwaitsInput state end) (came_after bytes feed) awaits)
