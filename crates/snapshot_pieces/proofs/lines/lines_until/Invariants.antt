-- There are the lines of the receipts so far, and they are not yet enough.
use Rattle.std.proofs.Common.{◌≡◌, ◌≤◌, [], None, length, option_copied}
use Rattle.std.specs.List.{cons_option}
use Rattle.snapshot_pieces.specs.Inside.Steps.{AreFirst}
use Rattle.snapshot_pieces.proofs.lines.lines_until.Given as goal

abbrev pub invariant-receipts : goal.invariant-receipts
invariant-receipts l = record {
  lines : AreFirst (option_copied l.initial.last) (cons_option (option_copied l.initial.next) l.initial.rest)
      (cons_option (option_copied l.next) l.rest) (record { text = l.text.items; count = l.count; last = option_copied l.last });
  few : length l.text.items ≤ l.size;
  ends : option_copied l.next ≡ None → cons_option (option_copied l.next) l.rest ≡ [];
}

abbrev pub decreases-receipts : goal.decreases-receipts
decreases-receipts l = length (cons_option (option_copied l.next) l.rest)
