use Rattle.std.proofs.Common.{◌∙◌, subst}
use Rattle.std.specs.List.{AllPass}
use Rattle.std.specs.Char.{is_ascii_digit}
use Rattle.replica_texts.proofs.ScanFacts.{no-stop, split-at-stop}
use Rattle.replica_texts.proofs.scanner.split_digits.Goals as goal

pub returns-in-Some : goal.returns-in-Some
returns-in-Some c = λ digits stop more pass none e.
    let parts = split-at-stop c.args.text.now digits stop more c.in-Some.place pass none e c.in-Some.ensures in
    (c.split_at.ensures.front ∙ parts.0, c.split_at.ensures.back ∙ parts.1)

pub returns-in-None : goal.returns-in-None
returns-in-None c = λ digits stop more pass none e. absurd (no-stop digits stop more (subst (AllPass is_ascii_digit) e c.in-None.ensures) none)
