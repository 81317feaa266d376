use Rattle.std.proofs.Common.{◌∙◌, ◌++◌, sym, ap, append-nil}
use Rattle.std.specs.List.{flat_map}
use Rattle.replica_texts.specs.Messages.{record_text}
use Rattle.bucket_sums.proofs.HeldFacts.{records-more}
use Rattle.bucket_sums.proofs.held_sums.text_of_records.Goals as goal

pub loop-domain-preserved : goal.loop-domain-preserved
loop-domain-preserved c =
    records-more c.loop-domain.text.items c.push_record.new.out.items _ c.loop-domain.domain-iterator c.next.new.self _
    c.in-Some.ensures.steps c.in_ok-push_record.ensures c.loop-domain.invariant

pub returns : goal.returns
returns c =
    sym (append-nil c.loop-domain.text.items)
    ∙ ap (λ rest. c.loop-domain.text.items ++ flat_map record_text rest) (sym c.in-None.ensures.steps.0)
    ∙ c.loop-domain.invariant ∙ ap (flat_map record_text) c.into_iter-domain-iterator.ensures.into_iter_gives
