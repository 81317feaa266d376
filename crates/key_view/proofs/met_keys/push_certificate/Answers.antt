use Rattle.std.proofs.Common.{◌∙◌, sym, ap}
use Rattle.key_view.specs.KnownKeys.{knows}
use Rattle.key_view.proofs.MetFacts.{met_more}
use Rattle.key_view.proofs.met_keys.push_certificate.Goals as goal

pub returns-in_ok-push-clause-ids : goal.returns-in_ok-push-clause-ids
returns-in_ok-push-clause-ids c = record {
  same = λ id. met_more c.args.met.now.keys.items _ c.args.met.now.ids c.insert.new.self c.requires.same c.in_ok-insert.ensures.updates.0 id
      ∙ ap (λ ks. knows ks id) (sym c.in_ok-push.ensures.items);
}
