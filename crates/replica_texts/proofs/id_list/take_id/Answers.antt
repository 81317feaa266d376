use Rattle.replica_texts.proofs.IdListFacts.{none-short, none-other, some-first}
use Rattle.replica_texts.proofs.id_list.take_id.Goals.{then-text-lt66-via-then-text-lt66, then-text-lt66-via-else-text-lt66+then-text-ne34}
use Rattle.replica_texts.proofs.id_list.take_id.Goals as goal

pub returns-then-text-lt66-clause-same : goal.returns-then-text-lt66-clause-same
returns-then-text-lt66-clause-same c = λ ids digests e.
    elim c.then-text-lt66.branch [
      | then-text-lt66-via-then-text-lt66 w ↦ none-short c.args.text.now ids digests e w.if-text-lt66.true
      | then-text-lt66-via-else-text-lt66+then-text-ne34 w ↦ none-other c.args.text.now ids digests e w.if-text-ne34.true
    ]

pub returns-clause-same : goal.returns-clause-same
returns-clause-same c = λ ids digests e.
    some-first c.args.text.now _ _ c.digest_after.result.0 ids c.id_of.result c.without_first.result digests e
    c.if-text-lt66.false c.split_at.ensures.front c.split_at.ensures.back
    (λ d follows is spelt. (c.digest_after.ensures d follows is spelt).0) c.id_of.ensures.same c.without_first.ensures
