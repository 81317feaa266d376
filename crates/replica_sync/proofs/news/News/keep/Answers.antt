use Rattle.std.proofs.Common.{◌≡◌, ◌∙◌, ◌++◌, ◌∷◌, List, [], ap, arith}
use Rattle.receipt_core.specs.declared.distrust.Distrust.{Distrust}
use Rattle.replica_sync.proofs.NewsFacts.{takes_kept}
use Rattle.replica_sync.proofs.news.News.keep.Goals as goal

pub returns : goal.returns
returns g c =
    let place = c.requires.may.place in
    let reserved : c.try_reserve.new.self.items ≡ c.args.self.now.later.items = c.try_reserve.ensures.items in
    let longer : c.push_reserved.new.self.items ≡ c.args.self.now.later.items ++ c.args.distrust ∷ [] =
    c.push_reserved.ensures.items ∙ ap (λ (l : List Distrust). l ++ c.args.distrust ∷ []) reserved in
    takes_kept _ _ _ c.args.number c.args.distrust c.sets.ensures.records c.requires.form c.requires.waits c.requires.may
    longer (omega (arith, place)) c.in_ok-push_record.ensures.ok
