use Rattle.std.proofs.Common.{◌≡◌, ℕ, ◌+◌, Option, Some, List, [], ◌∷◌, ◌++◌, Bor, length, length-append, option_copied, sym, ap, ◌∙◌, subst, arith}
use Rattle.std.specs.List.{AllByRecursion, cons_option}
use Rattle.receipt_core.specs.Receipt.{Receipt, IsReceipt, line}
use Rattle.receipt_core.proofs.ReadFacts.{length-line}
use Rattle.replica_texts.specs.Snapshots.{ended}
use Rattle.snapshot_pieces.specs.Inside.Steps.{AreFirst, RunLines, lent_list}
use Rattle.snapshot_pieces.proofs.LineFacts.{each_left, first_more}
use Rattle.snapshot_pieces.proofs.PlaceFacts.{lent_ends, lent_next}
use Rattle.snapshot_pieces.proofs.lines.lines_until.Goals as goal

pub returns-then-len-size : goal.returns-then-len-size
returns-then-len-size c =
    let x : Receipt = c.in-Some.receipt.now in
    let first = option_copied c.args.before in
    let all = lent_list c.args.receipts in
    let now = cons_option (option_copied c.receipts.next) c.receipts.rest in
    let old : RunLines = record { text = c.receipts.text.items; count = c.receipts.count; last = option_copied c.receipts.last } in
    let one : now ≡ x ∷ c.receipts.rest = ap (λ (o : Option (Bor Receipt)). cons_option (option_copied o) c.receipts.rest) c.in-Some.is in
    let text : c.push_line.new.text.items ≡ c.receipts.text.items ++ ended (line x) =
    c.in_ok-push_line.ensures
    ∙ ap (λ (t : List ℕ). c.receipts.text.items ++ ended t) (c.as_slice.ensures.value ∙ c.in_ok-write_line.ensures) in
    let form : AllByRecursion IsReceipt (x ∷ c.receipts.rest) =
    subst (λ (rs : List Receipt). AllByRecursion IsReceipt rs) one (each_left IsReceipt first all now old c.receipts.invariant.lines c.requires.form) in
    let size : length c.push_line.new.text.items ≡ length (c.receipts.text.items ++ ended (line x)) = ap length text in
    record {
      left = c.receipts.rest;
      lines = first_more first all now c.receipts.rest old x c.push_line.new.text.items c.receipts.invariant.lines one text;
      all = λ e. absurd (cc);
      moves = λ e. omega arith;
      ample = λ e. omega (arith, c.if-len-size.true, c.len.ensures);
      few = omega (
        arith,
        size,
        length-append c.receipts.text.items (ended (line x)),
        length-append (line x) (10 ∷ []),
        length-line x form.0,
        c.receipts.invariant.few,
      );
    }

pub receipts-preserved : goal.receipts-preserved
receipts-preserved c =
    let x : Receipt = c.in-Some.receipt.now in
    let first = option_copied c.args.before in
    let all = lent_list c.args.receipts in
    let now = cons_option (option_copied c.receipts.next) c.receipts.rest in
    let old : RunLines = record { text = c.receipts.text.items; count = c.receipts.count; last = option_copied c.receipts.last } in
    let new : RunLines = record { text = c.push_line.new.text.items; count = c.receipts.count + 1; last = Some x } in
    let one : now ≡ x ∷ c.receipts.rest = ap (λ (o : Option (Bor Receipt)). cons_option (option_copied o) c.receipts.rest) c.in-Some.is in
    let text : c.push_line.new.text.items ≡ c.receipts.text.items ++ ended (line x) =
    c.in_ok-push_line.ensures
    ∙ ap (λ (t : List ℕ). c.receipts.text.items ++ ended t) (c.as_slice.ensures.value ∙ c.in_ok-write_line.ensures) in
    let next = lent_next c.receipts.rest c.next-next.new.self c.next-next.result c.next-next.ensures.steps in
    record {
      lines = subst (λ (rs : List Receipt). AreFirst first all rs new) (sym next)
          (first_more first all now c.receipts.rest old x c.push_line.new.text.items c.receipts.invariant.lines one text);
      few = omega (arith, c.if-len-size.false, c.len.ensures);
      ends = λ e. next ∙ lent_ends c.receipts.rest c.next-next.new.self c.next-next.result c.next-next.ensures.steps e;
    }
