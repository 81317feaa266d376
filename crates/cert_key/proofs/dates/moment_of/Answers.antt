use Rattle.std.proofs.Common.{rules, sym, subst, w64, FitsSigned, to_z-of_z}
use Rattle.jiff_core.specs.Calendar.{IsEpochDay}
use Rattle.cert_key.proofs.MomentFacts.{has_day}
use Rattle.cert_key.proofs.dates.moment_of.Goals as goal

pub returns-in-Err : goal.returns-in-Err
returns-in-Err c = λ m is.
    let fits : FitsSigned w64 c.args.seconds = search rules in
    let day = simp to_z-of_z at c.div_euclid.ensures in
    let own : FitsSigned w64 c.div_euclid.result = search rules in
    let succeeds = simp to_z-of_z at c.in-Err.ensures.succeeds in
    let wrong = succeeds.1 (subst IsEpochDay (sym day) (has_day c.args.seconds m is)) in
    absurd cc
