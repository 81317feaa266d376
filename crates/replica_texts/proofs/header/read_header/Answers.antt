use Rattle.std.proofs.Common.{◌≡◌, true, false, subst, sym}
use Rattle.std.specs.Prelude.{decimal}
use Rattle.replica_texts.specs.Snapshots.{AreDigits}
use Rattle.replica_texts.proofs.HeaderFacts.{header_split, one_split}
use Rattle.replica_texts.proofs.header.read_header.Goals as goal

pub returns-then-not-are_digits : goal.returns-then-not-are_digits
returns-then-not-are_digits c =
    λ digits version h.
    let same = one_split c.args.text.now c.in-Some.digits.now c.in-Some.number.now digits (decimal version)
    c.in-Some.ensures (header_split c.args.text.now digits version h) in
    let no : false ≡ true = c.if-not-are_digits.ensures.1 (subst AreDigits (sym same.0) h.form) in
    cc

pub returns-in-None : goal.returns-in-None
returns-in-None c =
    λ digits version h.
    let same = one_split c.args.text.now c.in-Some.digits.now c.in-Some.number.now digits (decimal version)
    c.in-Some.ensures (header_split c.args.text.now digits version h) in
    c.in-None.ensures version (h.few, same.1)
