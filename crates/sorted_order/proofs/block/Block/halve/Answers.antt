use Rattle.std.proofs.Common.{◌≡◌, ◌≤◌, ◌-◌, ◌++◌, IsOk, length, drop, take, arith, ◌∙◌, ap, length-drop}
use Rattle.std.proofs.lemmas.List.{take_rest}
use Rattle.sorted_order.proofs.BlockFacts.{if_ok}
use Rattle.sorted_order.proofs.block.Block.halve.Goals as goal

pub returns-clause-second : goal.returns-clause-second
returns-clause-second c =
    let all = c.deref.result.now in
    let second : take (length all - 256) (drop 256 all) ≡ drop 256 all = take_rest all 256 in
    let same : all ≡ c.args.self.now = c.deref.ensures.value ∙ c.self.view_is in
    let fits : length (take (length all - 256) (drop 256 all)) ≤ 512 =
    rw second (omega (arith, length-drop 256 all, ap length same, ap length c.self.view_is, c.self.invariant.0)) in
    let ok : IsOk c.extend_from_slice.result =
    c.extend_from_slice.ensures.succeeds (omega (arith, c.clear.ensures.len, c.clear.ensures.capacity, c.spare.invariant.1, fits)) in
    if_ok c.extend_from_slice.result _ _ _ ok c.extend_from_slice.ensures.items
    ∙ ap (λ xs. xs ++ take (length all - 256) (drop 256 all)) c.clear.ensures.items
    ∙ second ∙ ap (λ xs. drop 256 xs) same
