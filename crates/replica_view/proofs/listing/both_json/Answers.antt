use Rattle.std.proofs.Common.{◌++◌, ◌∙◌, [], ap, codes}
use Rattle.json_text.specs.JsonText.{array_member}
use Rattle.json_text.proofs.PartFacts.{one_text}
use Rattle.replica_view.proofs.listing.both_json.Goals as goal

pub returns : goal.returns
returns c =
    one_text [] (array_member (codes "{\"receipts\":") c.args.receipts.now) _ _ _
    (c.in_ok-push_array.ensures ∙ ap (λ t. t ++ array_member (codes "{\"receipts\":") c.args.receipts.now) c.new-out.ensures.items)
    (one_text c.push_array.new.out.items (array_member (codes ",\"records\":") c.args.records.now) (codes "}\n") _ _ c.in_ok-push_array-2.ensures
    c.in_ok-extend_from_slice.ensures.items)
