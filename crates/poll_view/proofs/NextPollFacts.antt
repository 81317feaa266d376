-- What is known of the next poll of a domain of the log
use Rattle.std.proofs.Common.{◌≡◌, ℕ, ℤ, inl, inr, Bool, true, false, cond, List, [], ◌∷◌, map, Option, None, Some, refl, ap, Err}
use Rattle.std.specs.List.{AllZip, Contains}
use Rattle.std.proofs.lemmas.Slice.Eq.{bytes_eq-Decides}
use Rattle.std.specs.Str.{bytes_eq}
use Rattle.poll_log.specs.Polling.{PollStatus, IsNext, IsNextAfter, polled_domains, standing_in}
use Rattle.poll_log.specs.declared.error.PollError.{PollError}
use Rattle.poll_log.specs.declared.error.PollError.TheVariants.{PastRange}
use Rattle.closure_core.proofs.ContainsFacts.{contains_none, contains_cases}

-- a search that finds something in the rest finds something in all
by_test : (s : PollStatus) (others : Option PollStatus) (q : Bool) → (x : PollStatus) × (others ≡ Some x) → (x : PollStatus) × (cond q (Some s) others ≡ Some x)
by_test s others true rest = (s, refl)
by_test s others false rest = rest

-- a log keeps something for each of its domains
standing_in-some : (log : List PollStatus) (domain : List ℕ) → Contains (polled_domains log) domain → (x : PollStatus) × (standing_in log domain ≡ Some x)
standing_in-some [] domain has = absurd (contains_none domain has)
standing_in-some (s ∷ log) domain has = elim (contains_cases s.domain (polled_domains log) domain has) [
  | inl same ↦ (s, ap (λ q. cond q (Some s) (standing_in log domain)) ((bytes_eq-Decides s.domain domain).1 same))
  | inr later ↦ by_test s (standing_in log domain) (bytes_eq s.domain domain) (standing_in-some log domain later)
]

-- if there is no time for the next poll, the poll is past the range
past_after : (hint : Option ℕ) (failures : ℕ) (last : Option ℤ) (e : PollError) → IsNextAfter hint failures last (Err e)
    → IsNextAfter hint failures last (Err PastRange)
past_after hint failures None e h = cc
past_after hint failures (Some last) e h = (refl, h.1)

-- the same for the status that the log keeps for a domain
past_in : (hint : Option ℕ) (o : Option PollStatus) (s : PollStatus) (e : PollError) → o ≡ Some s → IsNext hint o (Err e) → IsNext hint o (Err PastRange)
past_in hint None s e is h = cc
past_in hint (Some x) s e is h = past_after hint x.failures x.last e h

-- if there is no time for the next poll of a domain of the log, it is past the range
pub past_range : (hint : Option ℕ) (log : List PollStatus) (domain : List ℕ) (e : PollError) → Contains (polled_domains log) domain
    → IsNext hint (standing_in log domain) (Err e) → IsNext hint (standing_in log domain) (Err PastRange)
past_range hint log domain e has refused =
    let known = standing_in-some log domain has in past_in hint (standing_in log domain) known.0 e known.1 refused

-- if the test says no, no poll is due
pub not_due : (D : Type 0) (due : Bool) → (D → due ≡ true) → due ≡ false → D → ⊥
not_due D due says isnt d = let is : due ≡ true = says d in cc

-- what holds of items and texts holds of what the items are taken to
pub zip_mapped : {X Y Z : Type 0} (f : X → Z) (R : Z → Y → Type 0) (xs : List X) (ys : List Y) → AllZip (λ x y. R (f x) y) xs ys → AllZip R (map f xs) ys
zip_mapped f R [] [] zip = tt
zip_mapped f R [] (y ∷ ys) zip = absurd zip
zip_mapped f R (x ∷ xs) [] zip = absurd zip
zip_mapped f R (x ∷ xs) (y ∷ ys) zip = (zip.0, zip_mapped f R xs ys zip.1)
