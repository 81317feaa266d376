use Rattle.std.proofs.Common.{arith, ◌∙◌}
use Rattle.std.proofs.lemmas.List.{length-set}
use Rattle.sorted_order.proofs.SumFacts.{made_each, next_few, next_rest, next_sum}
use Rattle.sorted_order.proofs.sums.sum_up.Goals as goal

pub length_of-requires : goal.length_of-requires
length_of-requires c =
    let l = c.loop-group in
    omega (
      arith,
      c.requires.few,
      next_few c.args.blocks.now l.rest.now l.group c.min-end.result l.invariant.rest,
    )

pub loop-group-preserved : goal.loop-group-preserved
loop-group-preserved c =
    let l = c.loop-group in
    let bs = c.args.blocks.now in
    record {
      groups = omega (arith, length-set l.sums l.group c.length_of.result, l.invariant.groups);
      rest = next_rest bs l.rest.now l.group c.min-end.result l.invariant.rest c.min-end.ensures;
      each = made_each l.sums bs l.group c.length_of.result (omega (arith, l.invariant.groups))
          (c.length_of.ensures
          ∙ next_sum bs l.rest.now l.group c.min-end.result l.invariant.rest c.min-end.ensures) l.invariant.each;
    }
