use Rattle.std.proofs.Common.{sym, ◌∙◌}
use Rattle.std.proofs.lemmas.Bool.{both_ways}
use Rattle.key_view.proofs.MatchingFacts.{each_ok}
use Rattle.key_view.proofs.SameKeyFacts.{same_without_record}
use Rattle.key_view.proofs.matching_keys.same_keys.Goals as goal

pub returns-then-has_record : goal.returns-then-has_record
returns-then-has_record g c = each_ok _ _ c.same_keys_of.result c.same_keys_of.ensures (λ ids are. record {
  are = are;
  none = λ lacks. absurd (both_ways c.has_record.result (c.has_record.ensures ∙ lacks) c.if-has_record.true);
})

pub returns-else-has_record : goal.returns-else-has_record
returns-else-has_record g c = record {
  are = same_without_record (g.C.Closure.state c.args.closure.now).meaning c.args.domain.now c.new.result.items
      (sym c.has_record.ensures ∙ c.if-has_record.false) c.new.ensures.items;
  none = λ lacks. c.new.ensures.items;
}
