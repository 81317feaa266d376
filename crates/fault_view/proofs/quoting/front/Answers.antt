use Rattle.std.proofs.Common.{◌≤◌, length, sym, arith, length-take-le}
use Rattle.fault_view.proofs.quoting.front.Goals as goal

pub slice_bounds-result-end : goal.slice_bounds-result-end
slice_bounds-result-end c =
    let within : 64 ≤ length c.args.text.now = omega (arith, c.if-text-le-MOST_SHOWN.false) in
    sym (length-take-le 64 c.args.text.now within)
