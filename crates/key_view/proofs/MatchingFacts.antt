-- What holds of the answer of a search, by what holds of what it found
use Rattle.std.proofs.Common.{Result, Ok, Err, IfOk}

-- each answer with the one property has the other
pub each_ok : {T E : Type 0} (P Q : T → Type 0) (r : Result T E) → IfOk r P → ((x : T) → P x → Q x) → IfOk r Q
each_ok P Q (Ok x) has more = more x has
each_ok P Q (Err e) has more = tt
