use Rattle.std.proofs.Common.{rules, ◌≤ℤ◌, sym, subst, pos, arith, unsigned_abs, w64, FitsSigned, to_z-of_z}
use Rattle.jiff_core.proofs.SignedLemmas.{signed_arith}
use Rattle.cert_key.specs.Moment.{IsMomentOf}
use Rattle.cert_key.proofs.MomentFacts.{has_year, moment_is, rest_is}
use Rattle.cert_key.proofs.dates.moment_on.Goals as goal

pub returns-then-date-lt0 : goal.returns-then-date-lt0
returns-then-date-lt0 c = λ m is.
    absurd (omega (arith, signed_arith, has_year c.args.seconds m c.args.date is c.requires, c.if-date-lt0.true))

pub returns : goal.returns
returns c =
    let fits : FitsSigned w64 c.args.seconds = search rules in
    let value = simp to_z-of_z at c.rem_euclid.ensures.value in
    let own : FitsSigned w64 c.rem_euclid.result = search rules in
    let clock = simp to_z-of_z at c.clock_of.ensures in
    let rest = rest_is c.args.seconds c.rem_euclid.result value in
    let year : pos 0 ≤ℤ c.args.date.year = omega (arith, signed_arith, c.if-date-lt0.false) in
    subst (IsMomentOf c.args.seconds) (sym clock)
    (moment_is c.args.seconds c.args.date (unsigned_abs c.rem_euclid.result) c.requires rest.0 rest.1 year)
