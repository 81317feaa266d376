use Rattle.std.proofs.Common.{◌∙◌, inr, true, false, ap, subst, refl}
use Rattle.replica_core.specs.declared.error.SyncError.TheVariants.{NoMemory}
use Rattle.replica_sync.specs.Pieces.{EndsLine, ended_line, kept_part, piece_run}
use Rattle.replica_sync.proofs.NewEntryFacts.{refused_with}
use Rattle.replica_sync.proofs.piece_pulling.Pulling.advance.Goals as goal

pub returns-in_err-ask-in-Line-clause-refused : goal.returns-in_err-ask-in-Line-clause-refused
returns-in_err-ask-in-Line-clause-refused g c =
    let self = c.args.self.now in
    let text = ended_line c.take.new.self in
    let takes = rw c.in-Line.is at c.in_ok-take.ensures.takes in
    refused_with c.from_residual-in_err-ask-in-Line.result _ NoMemory c.from_residual-in_err-ask-in-Line.ensures.1 (inr (record {
      cause = refl;
      used = c.in-Line.used;
      text = text;
      ends = subst (λ n. EndsLine (piece_run n (kept_part self.part) c.args.piece.now) c.in-Line.used text) self.limit takes.0;
      lines = c.take-in-Line.new.self;
      takes = rw (c.line.ensures, c.if-branch.true) at c.in_ok-take-in-Line.ensures.ok;
      passes = record { plan = c.ask.ensures.plan; more = c.ask.ensures.more; counts = c.ask.ensures.counts; next = c.ask.ensures.next };
      few = c.in_err-ask-in-Line.ensures.refused.0;
    }))

pub returns-in_ok-ask-in-Line-clause-ok : goal.returns-in_ok-ask-in-Line-clause-ok
returns-in_ok-ask-in-Line-clause-ok g c =
    let self = c.args.self.now in
    let text = ended_line c.take.new.self in
    let takes = rw c.in-Line.is at c.in_ok-take.ensures.takes in
    inr (record {
      text = text;
      ends = subst (λ n. EndsLine (piece_run n (kept_part self.part) c.args.piece.now) c.in-Line.used text) self.limit takes.0;
      kept = ap kept_part c.ask.ensures.part ∙ takes.1;
      whole = true;
      lines = c.take-in-Line.new.self;
      takes = rw (c.line.ensures, c.if-branch.true) at c.in_ok-take-in-Line.ensures.ok;
      passes = record { plan = c.ask.ensures.plan; more = c.ask.ensures.more; counts = c.ask.ensures.counts; next = c.ask.ensures.next };
      asks = c.in_ok-ask-in-Line.ensures.ok;
    })

pub returns-else-branch-clause-ok : goal.returns-else-branch-clause-ok
returns-else-branch-clause-ok g c =
    let self = c.args.self.now in
    let text = ended_line c.take.new.self in
    let takes = rw c.in-Line.is at c.in_ok-take.ensures.takes in
    inr (record {
      text = text;
      ends = subst (λ n. EndsLine (piece_run n (kept_part self.part) c.args.piece.now) c.in-Line.used text) self.limit takes.0;
      kept = takes.1;
      whole = false;
      lines = c.take-in-Line.new.self;
      takes = rw (c.line.ensures, c.if-branch.false) at c.in_ok-take-in-Line.ensures.ok;
      passes = (refl, refl);
      asks = c.requires.idle;
    })
