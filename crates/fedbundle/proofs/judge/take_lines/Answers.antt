use Rattle.std.proofs.Common.{◌+◌, ◌∙◌, length, arith, ap, refl, Err}
use Rattle.std.proofs.lemmas.Result.{err_from_is_err_and}
use Rattle.byte_lines.specs.declared.line_buf.Line.{Line}
use Rattle.fedbundle.specs.declared.line_fault.LineFault.TheVariants.{TooLong}
use Rattle.fedbundle.proofs.RunFacts.{so_far_none, so_far_text, so_far_stated, at_most_one, stops_line, stops_text}
use Rattle.fedbundle.proofs.RunFacts.{stops_io, begun_so_far, begun_line, begun_rest, judged_rest, end_of}
use Rattle.fedbundle.proofs.DeviceFacts.{line_sound}
use Rattle.fedbundle.proofs.judge.take_lines.Goals as goal

pub lines-init : goal.lines-init
lines-init g c =
    let few = g.met.R.Source.bounded c.args.source.now in
    let empty = ap length c.new-lines.ensures in
    record {
      so_far = so_far_none (g.C.Closure.state c.args.closure.now).meaning.config
          (g.R.Source.remaining c.args.source.now) _ (g.C.Closure.state c.args.closure.now).meaning
          (g.E.Sink.contents c.args.line_errors.now) c.new-lines.ensures refl c.requires.receipts c.requires.records;
      below = omega (arith, few, empty);
      few = omega arith;
      source_sound = refl;
      stated_sound = refl;
    }

pub returns-in_err-text-clause-stops : goal.returns-in_err-text-clause-stops
returns-in_err-text-clause-stops g c =
    let exit = err_from_is_err_and c.from_residual.result c.from_residual.ensures.1 in
    rw (exit.1, exit.2) (stops_line _ _ _ _ c.in_err-text.field-0.0 (begun_so_far _ _ _ _ _ _ _ _ _ c.lines.invariant.so_far refl))

pub returns-in_err-count-in-Text-clause-stops : goal.returns-in_err-count-in-Text-clause-stops
returns-in_err-count-in-Text-clause-stops g c =
    let taken = rw (c.in_ok-text.was, c.in-Text.is) at c.next_line.follows.holds-at-none in
    let exit = err_from_is_err_and c.from_residual-in_err-count-in-Text.result c.from_residual-in_err-count-in-Text.ensures.1 in
    rw (exit.1, exit.2) (stops_text _ _ _ _ (g.C.Closure.state c.lines.closure)
    (g.C.Closure.state c.take_text.new.closure) _ (g.E.Sink.contents c.lines.line_errors)
    (g.E.Sink.contents c.take_text.new.line_errors)
    c.lines.number c.lines.count c.in-Text.text.now (g.E.Sink.has_failed c.take_text.new.line_errors)
    c.in_err-count-in-Text.field-0.0 c.requires.config c.lines.invariant.so_far taken.finds.0 c.in_err-count-in-Text.ensures.tries)

pub returns-in_err-text-clause-sound : goal.returns-in_err-text-clause-sound
returns-in_err-text-clause-sound g c =
    let exit = err_from_is_err_and c.from_residual.result c.from_residual.ensures.1 in
    λ unless. (
      line_sound Line c.in_err-text.field-0.0 _ _ (λ io. unless (exit.1 ∙ ap Err (exit.2 ∙ io)))
          c.in_err-text.ensures.fault ∙ c.lines.invariant.source_sound,
      c.lines.invariant.stated_sound,
    )

pub lines-preserved-in-Text : goal.lines-preserved-in-Text
lines-preserved-in-Text g c =
    let taken = rw (c.in_ok-text.was, c.in-Text.is) at c.next_line.follows.holds-at-none in
    let less = taken.falls (λ e. cc) in
    let one = at_most_one (g.C.Closure.state c.lines.closure) (g.C.Closure.state c.take_text.new.closure)
    c.in-Text.text.now (c.lines.number + 1) (g.E.Sink.contents c.lines.line_errors)
    (g.E.Sink.contents c.take_text.new.line_errors)
    (g.E.Sink.has_failed c.take_text.new.line_errors) c.in_ok-count-in-Text.field-0 c.in_ok-count-in-Text.ensures.tries in
    record {
      so_far = so_far_text _ _ _ _ (g.C.Closure.state c.lines.closure) (g.C.Closure.state c.take_text.new.closure) _
          (g.E.Sink.contents c.lines.line_errors) (g.E.Sink.contents c.take_text.new.line_errors)
          c.lines.number c.lines.count c.in-Text.text.now (g.E.Sink.has_failed c.take_text.new.line_errors)
          c.in_ok-count-in-Text.field-0 c.requires.config c.lines.invariant.so_far taken.finds.0
          c.in_ok-count-in-Text.ensures.tries;
      below = omega (arith, less);
      few = omega (arith, one);
      source_sound = c.in_ok-text.ensures.fault ∙ c.lines.invariant.source_sound;
      stated_sound = c.in_ok-count-in-Text.ensures.sound (λ bad. cc) ∙ c.lines.invariant.stated_sound;
    }

pub returns-in_err-write_line_error-in-TooLong-clause-stops : goal.returns-in_err-write_line_error-in-TooLong-clause-stops
returns-in_err-write_line_error-in-TooLong-clause-stops g c =
    let taken = rw (c.in_ok-text.was, c.in-TooLong.is) at c.next_line.follows.holds-at-none in
    let (text, line, long) = taken.finds in
    let exit = err_from_is_err_and c.from_residual-in_err-write_line_error-in-TooLong.result c.from_residual-in_err-write_line_error-in-TooLong.ensures.1 in
    rw (exit.1, exit.2) (stops_io _ _ _ _
    (begun_line _ _ _ _ _ _ _ _ _ _ text TooLong c.requires.config c.lines.invariant.so_far line long c.write_line_error.ensures.beginning))

pub lines-preserved : goal.lines-preserved
lines-preserved g c =
    let taken = rw (c.in_ok-text.was, c.in-TooLong.is) at c.next_line.follows.holds-at-none in
    let less = taken.falls (λ e. cc) in
    let (text, line, long) = taken.finds in
    record {
      so_far = so_far_stated _ _ _ _ _ _ _ _ _ _ _ text TooLong c.requires.config c.lines.invariant.so_far line long refl
          c.in_ok-write_line_error-in-TooLong.ensures.ok;
      below = omega (arith, less);
      few = omega arith;
      source_sound = c.in_ok-text.ensures.fault ∙ c.lines.invariant.source_sound;
      stated_sound = c.in_ok-write_line_error-in-TooLong.ensures.fault ∙ c.lines.invariant.stated_sound;
    }

pub returns-in_err-write_line_error-in-Cut-clause-stops : goal.returns-in_err-write_line_error-in-Cut-clause-stops
returns-in_err-write_line_error-in-Cut-clause-stops g c =
    let taken = rw (c.in_ok-text.was, c.in-Cut.is) at c.next_line.follows.holds-at-none in
    let exit = err_from_is_err_and c.from_residual-in_err-write_line_error-in-Cut.result c.from_residual-in_err-write_line_error-in-Cut.ensures.1 in
    rw (exit.1, exit.2)
    (stops_io _ _ _ _ (begun_rest _ _ _ _ _ _ _ _ _ c.lines.invariant.so_far taken.finds.0 taken.finds.1
    c.write_line_error-in-Cut.ensures.beginning))

pub returns-in-Cut-clause-ok : goal.returns-in-Cut-clause-ok
returns-in-Cut-clause-ok g c =
    let taken = rw (c.in_ok-text.was, c.in-Cut.is) at c.next_line.follows.holds-at-none in
    judged_rest _ _ _ _ _ _ _ _ _ c.lines.invariant.so_far taken.finds.0 taken.finds.1 c.in_ok-write_line_error-in-Cut.ensures.ok

pub returns-in-Cut-clause-read : goal.returns-in-Cut-clause-read
returns-in-Cut-clause-read g c =
    let taken = rw (c.in_ok-text.was, c.in-Cut.is) at c.next_line.follows.holds-at-none in
    end_of _ _ taken.finds.2

pub returns-in-End-clause-read : goal.returns-in-End-clause-read
returns-in-End-clause-read g c =
    let taken = rw (c.in_ok-text.was, c.in-End.is) at c.next_line.follows.holds-at-none in
    end_of _ _ taken.finds.1
