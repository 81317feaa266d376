use Rattle.std.proofs.Common.{Result, Ok, Err, IfOk, string_bytes, arith}
use Rattle.cert_key.proofs.NameFacts.{is_text}
use Rattle.cert_key.proofs.name.name_text.Goals as goal

abbrev each : {T E : Type 0} (P Q : T → Type 0) (r : Result T E) → ((x : T) → P x → Q x) → IfOk r P → IfOk r Q
each P Q (Ok x) more is = more x is
each P Q (Err e) more is = tt

pub returns : goal.returns
returns c =
    each _ _ c.name_at.result (λ text. is_text c.args.name.now text string_bytes (λ i. omega (arith, c.type_inv.name i))) c.name_at.ensures
