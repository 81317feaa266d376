use Rattle.replica_texts.proofs.IdListFacts.{lists-more, digests-more}
use Rattle.replica_texts.proofs.id_list.read_ids.Goals as goal

pub ids-preserved : goal.ids-preserved
ids-preserved c = record {
  lists = lists-more c.args.text.now c.ids.rest.now c.ids.ids.items c.push.new.self.items c.in-Some.id c.in-Some.further
      c.ids.invariant.lists c.in-Some.ensures.same c.in_ok-push.ensures.items;
  digests = digests-more c.ids.ids.items c.push.new.self.items c.in-Some.id c.ids.invariant.digests c.in-Some.ensures.form c.in_ok-push.ensures.items;
}
