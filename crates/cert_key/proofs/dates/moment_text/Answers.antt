use Rattle.std.proofs.Common.{rules, ap, ◌∙◌, Result, Ok, Err, IfOk, w64, FitsSigned, to_z-of_z}
use Rattle.cert_key.specs.Moment.{moment_text}
use Rattle.cert_key.proofs.MomentFacts.{is_shown, same_moment}
use Rattle.cert_key.proofs.dates.moment_text.Goals as goal

abbrev each : {T E : Type 0} (P Q : T → Type 0) (r : Result T E) → ((x : T) → P x → Q x) → IfOk r P → IfOk r Q
each P Q (Ok x) more is = more x is
each P Q (Err e) more is = tt

pub clock_moment-requires : goal.clock_moment-requires
clock_moment-requires c =
    let fits : FitsSigned w64 c.args.seconds = search rules in
    is_shown c.args.seconds _ (simp to_z-of_z at c.in-Some.ensures)

pub returns-in-Some-clause-date : goal.returns-in-Some-clause-date
returns-in-Some-clause-date c = λ m is.
    let fits : FitsSigned w64 c.args.seconds = search rules in
    let found = simp to_z-of_z at c.in-Some.ensures in
    each _ _ c.clock_moment.result (λ text written. written ∙ ap moment_text (same_moment c.args.seconds _ m found is))
    c.clock_moment.ensures
