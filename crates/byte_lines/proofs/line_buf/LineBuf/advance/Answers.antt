use Rattle.std.proofs.Common.{length, arith, sym, ap, subst, List, ℕ, if◌then◌else◌, []}
use Rattle.std.proofs.lemmas.Result.{err_from_is_err_and}
use Rattle.std.specs.Io.KnownBytes.{Keeps, prepend_known}
use Rattle.std.proofs.KnownBytes.{Keeps-trans}
use Rattle.byte_lines.specs.Ahead.{ahead_of}
use Rattle.byte_lines.specs.Streams.{stream_of, left_of}
use Rattle.byte_lines.proofs.StreamFacts.{prepend_known-front}
use Rattle.byte_lines.proofs.StepFacts.{spent_on, TakesFound-io, TakesFound-memory, length_line, taken_line, kept_none}
use Rattle.byte_lines.proofs.StepFacts.{long_line, long_cut, length_passed, unbroken_at_first, unbroken_skipped}
use Rattle.byte_lines.proofs.line_buf.LineBuf.advance.Goals as goal

pub returns-in_err-fill-clause-takes : goal.returns-in_err-fill-clause-takes
returns-in_err-fill-clause-takes g c =
    let exit = err_from_is_err_and c.from_residual-in_err-fill.result c.from_residual-in_err-fill.ensures.1 in
    TakesFound-io _ _ _ _ exit.0 exit.1 exit.2 (spent_on _ _ _ _ _ _ c.pieces.invariant.spent c.in_err-fill.ensures.spends)

pub returns-in_err-gather-clause-takes : goal.returns-in_err-gather-clause-takes
returns-in_err-gather-clause-takes g c =
    let exit = err_from_is_err_and c.from_residual-in_err-gather.result c.from_residual-in_err-gather.ensures.1 in
    let keeps = Keeps-trans _ _ _ c.pieces.invariant.keeps (prepend_known-front _ _ _ _ _ c.in_ok-fill.ensures.bytes) in
    let spent = spent_on (if c.pieces.self.is_given then [] else c.pieces.self.line.items)
    (ahead_of c.pieces.self.ahead) (ahead_of c.fill.new.self) (g.R.Source.budget c.pieces.source)
    (g.R.Source.budget c.fill.new.source) (left_of g.R.Source.budget c.args.self.now c.args.source.now)
    c.pieces.invariant.spent c.in_ok-fill.ensures.spends in
    let same = c.in_err-gather.ensures.gathers in
    TakesFound-memory _ _ _ c.from_residual-in_err-gather.result exit.0 exit.1
    (subst (λ (l : List ℕ). Keeps (stream_of g.R.Source.remaining c.args.self.now c.args.source.now)
    (prepend_known l (g.R.Source.remaining c.fill.new.source))) (sym same) keeps)
    (omega (arith, ap length same, spent))

pub returns-in-Line-clause-takes : goal.returns-in-Line-clause-takes
returns-in-Line-clause-takes g c =
    let keeps = Keeps-trans _ _ _ c.pieces.invariant.keeps (prepend_known-front _ _ _ _ _ c.in_ok-fill.ensures.bytes) in
    let spent = spent_on (if c.pieces.self.is_given then [] else c.pieces.self.line.items)
    (ahead_of c.pieces.self.ahead) (ahead_of c.fill.new.self) (g.R.Source.budget c.pieces.source)
    (g.R.Source.budget c.fill.new.source) (left_of g.R.Source.budget c.args.self.now c.args.source.now)
    c.pieces.invariant.spent c.in_ok-fill.ensures.spends in
    let parts = (rw c.in-Line.is at c.in_ok-gather.ensures.gathers).0 in
    let size = length_line _ _ _ parts in
    let given = c.gather.new.self in
    record {
      finds = ((given.unbroken, taken_line _ _ _ _ _ keeps parts), omega (arith, given.within));
      keeps = λ bad. cc;
      spends = omega (arith, size, spent);
      falls = λ _. omega (arith, size, spent);
    }

pub returns-in_err-is_ended-in-TooMuch-clause-takes : goal.returns-in_err-is_ended-in-TooMuch-clause-takes
returns-in_err-is_ended-in-TooMuch-clause-takes g c =
    let exit = err_from_is_err_and c.from_residual-in_err-is_ended-in-TooMuch.result c.from_residual-in_err-is_ended-in-TooMuch.ensures.1 in
    let spent = spent_on (if c.pieces.self.is_given then [] else c.pieces.self.line.items)
    (ahead_of c.pieces.self.ahead) (ahead_of c.fill.new.self) (g.R.Source.budget c.pieces.source)
    (g.R.Source.budget c.fill.new.source) (left_of g.R.Source.budget c.args.self.now c.args.source.now)
    c.pieces.invariant.spent c.in_ok-fill.ensures.spends in
    let over = rw c.in-TooMuch.is at c.in_ok-gather.ensures.gathers in
    let same = kept_none c.gather.new.self.is_given _ (ahead_of c.skip_line.new.self) over.1 in
    TakesFound-io _ _ _ _ exit.0 exit.1 exit.2
    (omega (arith, length_passed _ _ over.0, ap length same, spent, c.in_err-is_ended-in-TooMuch.ensures.spends))

pub returns-in_err-is_ended-in-TooMuch-clause-lines_first : goal.returns-in_err-is_ended-in-TooMuch-clause-lines_first
returns-in_err-is_ended-in-TooMuch-clause-lines_first g c =
    let over = rw c.in-TooMuch.is at c.in_ok-gather.ensures.gathers in
    let front = if c.pieces.self.is_given then [] else c.pieces.self.line.items in
    let plain = unbroken_skipped _ _ over.0 c.in_err-is_ended-in-TooMuch.ensures.lines_first in
    let inv = c.pieces.invariant in
    λ _. unbroken_at_first front (ahead_of c.pieces.self.ahead) (ahead_of c.fill.new.self) _ inv.none inv.same c.in_ok-fill.ensures.held plain

pub returns-then-is_ended-clause-takes : goal.returns-then-is_ended-clause-takes
returns-then-is_ended-clause-takes g c =
    let keeps = Keeps-trans _ _ _ c.pieces.invariant.keeps (prepend_known-front _ _ _ _ _ c.in_ok-fill.ensures.bytes) in
    let spent = spent_on (if c.pieces.self.is_given then [] else c.pieces.self.line.items)
    (ahead_of c.pieces.self.ahead) (ahead_of c.fill.new.self) (g.R.Source.budget c.pieces.source)
    (g.R.Source.budget c.fill.new.source) (left_of g.R.Source.budget c.args.self.now c.args.source.now)
    c.pieces.invariant.spent c.in_ok-fill.ensures.spends in
    let over = rw c.in-TooMuch.is at c.in_ok-gather.ensures.gathers in
    let same = kept_none c.gather.new.self.is_given _ (ahead_of c.skip_line.new.self) over.1 in
    let skipped = c.in_ok-is_ended-in-TooMuch.ensures in
    record {
      finds = long_line _ _ _ _ _ _ _ keeps over.0 same (skipped.line c.if-is_ended.true);
      keeps = λ bad. cc;
      spends = omega (arith, length_passed _ _ over.0, ap length same, spent, skipped.spends);
      falls = λ _. omega (arith, length_passed _ _ over.0, ap length same, spent, skipped.spends);
    }

pub returns-else-is_ended-clause-takes : goal.returns-else-is_ended-clause-takes
returns-else-is_ended-clause-takes g c =
    let keeps = Keeps-trans _ _ _ c.pieces.invariant.keeps (prepend_known-front _ _ _ _ _ c.in_ok-fill.ensures.bytes) in
    let spent = spent_on (if c.pieces.self.is_given then [] else c.pieces.self.line.items)
    (ahead_of c.pieces.self.ahead) (ahead_of c.fill.new.self) (g.R.Source.budget c.pieces.source)
    (g.R.Source.budget c.fill.new.source) (left_of g.R.Source.budget c.args.self.now c.args.source.now)
    c.pieces.invariant.spent c.in_ok-fill.ensures.spends in
    let over = rw c.in-TooMuch.is at c.in_ok-gather.ensures.gathers in
    let same = kept_none c.gather.new.self.is_given _ (ahead_of c.skip_line.new.self) over.1 in
    let skipped = c.in_ok-is_ended-in-TooMuch.ensures in
    let rest = skipped.rest c.if-is_ended.false in
    record {
      finds = long_cut _ _ _ _ _ _ _ keeps over.0 same rest.0 rest.1;
      keeps = λ bad. cc;
      spends = omega (arith, length_passed _ _ over.0, ap length same, spent, skipped.spends);
      falls = λ _. omega (arith, length_passed _ _ over.0, ap length same, spent, skipped.spends);
    }
