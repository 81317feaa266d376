use Rattle.std.proofs.Common.{◌≡◌, refl}
use Rattle.fedbundle.specs.Report.{meaning_of_receipts}
use Rattle.fedbundle.proofs.laws.one_report.Goals as goal

pub returns : goal.returns
returns g c d one other rs ss s t trust same p q here there =
    let list : rs ≡ ss = g.one_list.ensures.receipts rs ss p.rising q.rising
    (λ r. (λ has. q.complete r ((same r).0 (p.sound r has)), λ has. p.complete r ((same r).1 (q.sound r has)))) in
    g.one_view.ensures.report (meaning_of_receipts c rs) (meaning_of_receipts d ss) s t
    (record { trust = trust; held = list; records = refl }) here there
