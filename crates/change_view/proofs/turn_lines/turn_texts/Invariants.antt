use Rattle.std.proofs.Common.{◌≡◌, ◌++◌, drop, map}
use Rattle.change_view.specs.TurnTexts.{AreReportedAt, audit_at, part_journal}
use Rattle.change_view.proofs.turn_lines.turn_texts.Given as goal

abbrev pub invariant-loop-part : goal.invariant-loop-part
invariant-loop-part l =
    (map (λ r. r.now) l.journal.items ++ map part_journal (drop l.part-index l.turn) ≡ map part_journal l.turn)
    × (l.audit.items ++ audit_at l.moment (drop l.part-index l.turn) ≡ audit_at l.moment l.turn)
    × (AreReportedAt l.moment (drop l.part-index l.turn) → AreReportedAt l.moment l.turn)
