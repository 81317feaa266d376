use Rattle.std.proofs.Common.{◌≡◌, ℕ, ◌^◌, ◌<◌, Bool, List, ◌++◌, length, length-append, ap, sym, ◌∙◌, arith, rules}
use Rattle.replica_texts.specs.Snapshots.{count_of, ended}
use Rattle.snapshot_pieces.specs.Pieces.{end_of, end_line}
use Rattle.snapshot_pieces.proofs.LineFacts.{last_size}
use Rattle.snapshot_pieces.proofs.pieces.SnapshotPieces.push_end.Goals as goal

pub returns-in_ok-push_line-clause-text : goal.returns-in_ok-push_line-clause-text
unfolding count_of end_line
returns-in_ok-push_line-clause-text c =
    let pieces = c.args.self.now in
    let spelt : c.as_slice.result.now ≡ end_line pieces.receipts pieces.records = c.as_slice.ensures.value ∙ c.in_ok-line.ensures in
    c.in_ok-push_line.ensures ∙ ap (λ (t : List ℕ). c.args.text.now.items ++ ended t) spelt
    ∙ ap (λ (b : Bool). c.args.text.now.items ++ end_of b pieces) (sym c.if-is_last.true)

pub returns-in_ok-push_line-clause-few : goal.returns-in_ok-push_line-clause-few
unfolding count_of end_line
returns-in_ok-push_line-clause-few c =
    let receipts : c.args.self.now.receipts < 2 ^ 64 = search rules in
    let records : c.args.self.now.records < 2 ^ 64 = search rules in
    let spelt : c.as_slice.result.now ≡ end_line c.args.self.now.receipts c.args.self.now.records = c.as_slice.ensures.value ∙ c.in_ok-line.ensures in
    let size : length c.push_line.new.text.items ≡ length (c.args.text.now.items ++ ended c.as_slice.result.now) = ap length c.in_ok-push_line.ensures in
    let end : length (ended c.as_slice.result.now) ≡ length (ended (end_line c.args.self.now.receipts c.args.self.now.records)) =
    ap (λ (t : List ℕ). length (ended t)) spelt in
    let old = length-append c.args.text.now.items (ended c.as_slice.result.now) in
    let bound = last_size c.args.self.now.receipts c.args.self.now.records receipts records in
    omega (arith, size, end, old, bound)
