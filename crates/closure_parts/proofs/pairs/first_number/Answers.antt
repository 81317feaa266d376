-- Numbers whose pairs rise can be searched.
use Rattle.closure_core.specs.Inside.Nodes.{pairs_of}
use Rattle.closure_core.specs.AcceptedList.{document_of}
use Rattle.closure_parts.proofs.PairFacts.{rising-sought}
use Rattle.closure_parts.proofs.pairs.first_number.Goals as goal

pub find_by_guess-requires-clause-rising : goal.find_by_guess-requires-clause-rising
find_by_guess-requires-clause-rising c =
    rising-sought (pairs_of c.args.sought.now.seeds.now c.args.sought.now.receipts.now) c.args.order.now.items
    (document_of c.args.sought.now.domain.now c.args.sought.now.document.now) c.requires.rising
