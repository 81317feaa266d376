-- Passwords of URLs.
use Rattle.std.proofs.Common.{◌≡◌, ◌↔◌, ℕ, List, [], ◌∷◌, Bool, true, false, cond, not, Option, Some, None, ◌∙◌, refl, arith}
use Rattle.std.specs.Bool.{IsTrue}
use Rattle.std.specs.Option.{option_copied, is_some}
use Rattle.std.proofs.lemmas.Bool.{cond-false}
use Rattle.url.specs.Input.{is_empty}
use Rattle.url.proofs.InputLemmas.{is_empty_nonempty}
use denote.Ref.{Bor}

-- the code's test for a password, which the library returns as none if it is empty, decides whether
-- the URL has one
pub no_password : (password : List ℕ) (o : Option (Bor (List ℕ))) (r : Bool)
    → option_copied o ≡ cond (is_empty password) None (Some password) → is_some o ≡ not r → IsTrue r ↔ (password ≡ [])
no_password [] o true e is = (λ h. refl, λ h. refl)
no_password [] None false e is = absurd (cc)
no_password [] (Some x) false e is = absurd (cc)
no_password (b ∷ bs) None r e is = let some = e ∙ cond-false _ None (Some (b ∷ bs)) (is_empty_nonempty (b ∷ bs) (omega arith)) in absurd (cc)
no_password (b ∷ bs) (Some x) true e is = absurd (cc)
no_password (b ∷ bs) (Some x) false e is = (λ h. absurd (cc), λ h. absurd (cc))
