use Rattle.std.proofs.Common.{◌≡◌, ◌∙◌, refl, sym, ap, subst}
use Rattle.std.specs.Int.{w64}
use Rattle.std.specs.Fmt.{signed_decimal}
use Rattle.std.specs.Prelude.{FitsSigned}
use Rattle.std.proofs.lemmas.Int.{to_z-of_z}
use Rattle.std.proofs.lemmas.Str.{IsUtf8-from_ascii}
use Rattle.std.specs.Str.{IsAscii}
use Rattle.poll_log.specs.PollLines.{ReadsSeconds}
use Rattle.poll_log.proofs.SecondsFacts.{IsAscii-seconds, answered, fits_parsed, not_parsed, parsed, refused}
use Rattle.poll_log.proofs.poll_lines.read_seconds.Goals as goal

pub returns-in_err-ok : goal.returns-in_err-ok
returns-in_err-ok c =
    let no = refused c.from_utf8.result _ _ c.in_err-ok.ensures.variant c.from_utf8.ensures.cases in
    subst (ReadsSeconds c.args.text.now) (sym c.from_residual.ensures)
    (λ n fits is. no.1.0 (IsUtf8-from_ascii c.args.text.now (subst IsAscii (sym is) (IsAscii-seconds n fits))))

pub returns-in_err-seconds : goal.returns-in_err-seconds
returns-in_err-seconds c =
    let lent = answered c.from_utf8.result _ _ c.in_ok-ok.field-0 c.in_ok-ok.ensures.value c.from_utf8.ensures.cases in
    subst (ReadsSeconds c.args.text.now) (sym c.from_residual-in_err-seconds.ensures)
    (λ n fits is. not_parsed n c.in_ok-ok.field-0.now c.parse.result c.in_err-seconds.ensures.variant c.parse.ensures.value.0 fits (lent.0 ∙ is))

pub returns-then-is_written : goal.returns-then-is_written
returns-then-is_written c =
    let fits : FitsSigned w64 c.in_ok-seconds.seconds =
    fits_parsed c.in_ok-seconds.seconds c.in_ok-ok.field-0.now c.parse.result c.in_ok-seconds.ensures.value
    c.parse.ensures.value.0 in
    (c.if-is_written.ensures.0 refl, subst (FitsSigned w64) (sym (to_z-of_z w64 c.in_ok-seconds.seconds fits)) fits)

pub returns-else-is_written : goal.returns-else-is_written
returns-else-is_written c = λ n fits is.
    let lent = answered c.from_utf8.result _ _ c.in_ok-ok.field-0 c.in_ok-ok.ensures.value c.from_utf8.ensures.cases in
    let same : c.in_ok-seconds.seconds ≡ n =
    parsed n c.in_ok-seconds.seconds c.in_ok-ok.field-0.now c.parse.result c.in_ok-seconds.ensures.value
    c.parse.ensures.value.0 fits (lent.0 ∙ is) in
    let own : FitsSigned w64 c.in_ok-seconds.seconds = subst (FitsSigned w64) (sym same) fits in
    let false_is = c.if-is_written.ensures.1 (is ∙ ap signed_decimal (sym same ∙ sym (to_z-of_z w64 c.in_ok-seconds.seconds own))) in
    cc
