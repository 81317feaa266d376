-- The flags are written back.
use Rattle.std.proofs.Common.{◌≡◌, ◌++◌, ◌∙◌, take, drop, length, arith, ap, sym, subst}
use Rattle.std.proofs.Math.Seq.{take-append_seam}
use Rattle.closure_parts.specs.Held.{meaning_of}
use Rattle.plain_closure.specs.Plain.{AreReleased}
use Rattle.plain_closure.proofs.settling.settle.Goals as goal

pub returns-clause-released : goal.returns-clause-released
returns-clause-released c =
    let h = c.args.held.now in
    let v = c.args.released.now in
    let xs = c.run_rounds.new.released in
    let size : v.len ≡ length xs = omega (arith, v.ok.0, c.run_rounds.ensures.size, ap length c.deref_mut.ensures.value) in
    let same : take v.len (xs ++ drop (length xs) v.items) ≡ xs =
    ap (λ n. take n (xs ++ drop (length xs) v.items)) size ∙ take-append_seam xs (drop (length xs) v.items) in
    subst (AreReleased (meaning_of h) h.arrived) (sym same) c.run_rounds.ensures.released
