use Rattle.snapshot_pieces.proofs.PlaceFacts.{one_passed}
use Rattle.snapshot_pieces.proofs.places.passed_over.Goals as goal

pub passed-preserved : goal.passed-preserved
passed-preserved g c =
    one_passed c.receipts-rest.result c.passed.rest c.next.new.self c.passed.counter c.next.result c.next.ensures.steps
    c.passed.invariant
