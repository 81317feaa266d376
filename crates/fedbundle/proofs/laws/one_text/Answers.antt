use Rattle.fedbundle.proofs.laws.one_text.Goals as goal

pub returns-clause-report : goal.returns-clause-report
returns-clause-report c one other s t same here there =
    c.one_view.ensures.report one other s t (record {
      trust = same.trust;
      held = c.one_list.ensures.receipts one.held other.held same.valid.rising same.other_valid.rising same.receipts;
      records = c.one_list.ensures.records one.records other.records same.valid.records_rising same.other_valid.records_rising same.records;
    }) here there

pub returns-clause-snapshot : goal.returns-clause-snapshot
returns-clause-snapshot c one other same = λ format.
    c.snapshots.ensures.same format one other (record {
      trust = same.trust;
      held = c.one_list.ensures.receipts one.held other.held same.valid.rising same.other_valid.rising same.receipts;
      records = c.one_list.ensures.records one.records other.records same.valid.records_rising same.other_valid.records_rising same.records;
    })
