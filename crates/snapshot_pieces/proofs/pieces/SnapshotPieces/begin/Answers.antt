use Rattle.std.proofs.Common.{refl, ap, ◌∙◌}
use Rattle.replica_texts.specs.SoleLines.{written_header}
use Rattle.snapshot_pieces.proofs.PieceFacts.{begun_text, has_begun}
use Rattle.snapshot_pieces.proofs.pieces.SnapshotPieces.begin.Goals as goal

pub returns-clause-text : goal.returns-clause-text
returns-clause-text g c =
    begun_text (g.C.Closure.state c.args.closure.now).meaning c.in_ok-header.header.items c.as_slice.result.now
    c.new-text.result.items c.push_line.new.text.items c.push_records.new.text.items
    (c.in_ok-header.ensures ∙ ap written_header c.config.ensures.config) c.as_slice.ensures.value c.new-text.ensures.items
    c.in_ok-push_line.ensures c.in_ok-records.ensures.text

pub returns-clause-begins : goal.returns-clause-begins
returns-clause-begins g c =
    has_begun (g.C.Closure.state c.args.closure.now).meaning _ c.push_records.new.text.items c.config.ensures.valid
    (returns-clause-text g c) refl refl c.in_ok-records.ensures.count
